use Rattle.std.proofs.Common.{subst}
use Rattle.bench_report.{specs.{declared.power.Power.Power, Agree.Agrees}, proofs.Lines.off_inspects}
use Rattle.bench_report.proofs.off_lines.inspect_line.Goals as goal

pub returns-in-Off-clause-reported : goal.returns-in-Off-clause-reported
returns-in-Off-clause-reported c = λ size b h.
    let P : Power → Type 0 = λ p. Agrees size b p in
    let was = subst P c.in-Off.is h in
    off_inspects size b c.inspect_disk.result.1 c.inspect_disk.result.0 was.0 (c.inspect_disk.ensures.reported size b was)
