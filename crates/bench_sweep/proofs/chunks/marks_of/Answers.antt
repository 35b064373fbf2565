use Rattle.std.proofs.Common.{arith}
use Rattle.bench_report.specs.Happens.{unpowered}
use Rattle.bench_sweep.proofs.chunks.marks_of.Goals as goal

pub loop-i-init : goal.loop-i-init
loop-i-init g c =
    let size = c.args.runner.now.setting.shape.now in
    let sits = c.requires.sits in
    record { few = omega (arith, c.in_ok-moment.ensures.none); sits = (unpowered sits.0, c.in_ok-moment.ensures.came size sits.0 c.args.runner.now.lines.now sits.1) }

pub loop-i-preserved : goal.loop-i-preserved
loop-i-preserved g c = record { few = c.in-Ok.ensures.few; sits = c.in-Ok.ensures.sits }
