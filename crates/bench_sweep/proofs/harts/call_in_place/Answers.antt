use Rattle.std.proofs.Common.{◌≡◌, ◌∙◌, true, false, refl, sym, subst}
use Rattle.script_lang.specs.declared.line.Line.TheVariants as lines
use Rattle.machine.specs.{Machine.Machine, Shows.HasHart}
use Rattle.bench_sweep.proofs.Turned.{call_lacks}
use Rattle.bench_sweep.proofs.harts.call_in_place.Goals as goal

pub returns-then-not-has-clause-goes : goal.returns-then-not-has-clause-goes
returns-then-not-has-clause-goes g c = λ size b was told.
    let h = c.args.hart in
    let H : Machine → Type 0 = λ m. HasHart m h in
    call_lacks size b (lines.Call h c.args.words) c.args.board.now h c.args.words c.args.ledger.now refl (λ has. (let e : false ≡ true = sym c.if-not-has.true ∙ c.has.ensures.1 (subst H (sym c.machine.ensures) has) in let no : ⊥ = cc in no)) was told
