use Rattle.std.proofs.{Common.{◌≡◌, Bool, true, false, refl, sym, ◌∙◌, ap}, Math.Bool.{not, beq}}
use Rattle.disk.specs.FaultState.{FaultState}
use Rattle.bench_sweep.proofs.judging.turn_off.Goals as goal

same : (a b : Bool) → not (beq a b) ≡ false → a ≡ b
same true true e = refl
same true false e = cc
same false true e = cc
same false false e = refl

pub returns-clause-runs : goal.returns-clause-runs
returns-clause-runs c = λ size b r.
    let at = c.into_site-site.ensures.runs size b r in
    (sym (c.is_struck.ensures.exact size b r.agrees) ∙ same _ _ c.if-is_struck-struck.false, ap (λ (m : FaultState). m.own) at.agrees.2.0 ∙ sym c.refused.ensures ∙ c.if-refused-ne0.false, at)
