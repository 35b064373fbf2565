use Rattle.std.proofs.Common.{subst}
use Rattle.bench_report.{specs.{declared.power.Power.Power, Agree.Agrees}, proofs.Lines.off_formats}
use Rattle.bench_report.proofs.off_lines.format_line.Goals as goal

pub returns-in-Off : goal.returns-in-Off
returns-in-Off c = λ b h.
    let P : Power → Type 0 = λ p. Agrees c.args.shape.now b p in
    let was = subst P c.in-Off.is h in
    off_formats c.args.shape.now b c.format_disk.result.1 c.format_disk.result.0 was.0 (c.format_disk.ensures b was)
