use Rattle.bench_program.proofs.Tested.{last_next}
use Rattle.bench_program.proofs.taps.last_line.Goals as goal

pub loop-line-preserved : goal.loop-line-preserved
loop-line-preserved c = last_next c.args.lines.now c.loop-line.line-index _ c.loop-line.last.now c.last_of_two-last.result.now c.loop-line-test.true c.last_of_two-last.ensures c.loop-line.invariant
