use Rattle.std.proofs.Common.{subst}
use Rattle.bench_report.{specs.{declared.power.Power.Power, Agree.Agrees}, proofs.Armed.armed_on}
use Rattle.bench_report.proofs.copies.arm_power.Goals as goal

pub returns-in-Off-clause-reported : goal.returns-in-Off-clause-reported
returns-in-Off-clause-reported c = λ size b h. let P : Power → Type 0 = λ p. Agrees size b p in c.arm_disk.ensures.reported size b (subst P c.in-Off.is h)

pub returns-in-On-clause-reported : goal.returns-in-On-clause-reported
returns-in-On-clause-reported c = λ size b h.
    let P : Power → Type 0 = λ p. Agrees size b p in
    let did = c.arm.ensures in
    armed_on size b c.args.fault c.in-On.board c.arm.new.self (subst P c.in-On.is h) did.machine did.life did.board did.facts did.armed
