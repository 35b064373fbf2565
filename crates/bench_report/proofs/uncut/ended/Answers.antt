use Rattle.std.proofs.Common.{subst, sym}
use Rattle.bench_report.specs.{declared.power.Power.Power, Agree.HasDisk}
use Rattle.bench_report.proofs.uncut.ended.Goals as goal

pub returns-in-On-clause-disk : goal.returns-in-On-clause-disk
returns-in-On-clause-disk c = λ d has. let P : Power → Type 0 = λ p. HasDisk p d in subst P (sym c.in-On.is) (c.after.ensures.disk d has)

pub returns-in-Off-clause-disk : goal.returns-in-Off-clause-disk
returns-in-Off-clause-disk c = λ d has. let P : Power → Type 0 = λ p. HasDisk p d in subst P (sym c.in-Off.is) has
