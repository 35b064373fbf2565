use Rattle.std.proofs.Common.{◌≡◌, ◌∙◌, Bool, true, false, not, refl, sym}
use Rattle.bench_report.proofs.in_place.is_still_on.Goals as goal

no_hit : (k : Bool) → not k ≡ true → k ≡ false
no_hit true e = absurd (let no : ⊥ = cc in no)
no_hit false e = refl

pub returns-then-goes_on-clause-reported : goal.returns-then-goes_on-clause-reported
returns-then-goes_on-clause-reported c = λ on size b agrees. sym (c.struck-hit.ensures.reported size b agrees) ∙ no_hit c.struck-hit.result on
