use Rattle.std.proofs.Common.{subst}
use Rattle.bench_report.specs.{declared.power.Power.Power, Agree.Agrees}
use Rattle.bench_report.proofs.in_place.in_place.Goals as goal

pub returns-then-has-clause-reported : goal.returns-then-has-clause-reported
returns-then-has-clause-reported g c = λ size b h.
    let P : Power → Type 0 = λ p. Agrees size b p in
    c.row_on.ensures.reported size b (subst P c.in-On.is h)
