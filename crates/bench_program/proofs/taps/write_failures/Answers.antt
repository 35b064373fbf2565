use Rattle.std.proofs.Common.{arith}
use Rattle.bench_program.proofs.Tested.{count_next, wrote_next}
use Rattle.bench_program.proofs.taps.write_failures.Goals as goal

pub loop-line-preserved : goal.loop-line-preserved
loop-line-preserved g c =
    let is = c.in_ok-told.ensures.count in
    let so_far = c.loop-line.invariant in
    record {
      count = count_next c.args.lines.now c.loop-line.line-index _ c.loop-line.told c.in_ok-told.told c.loop-line-test.true is so_far.count;
      few = omega (arith, so_far.few, c.in_ok-told.ensures.few);
      wrote = wrote_next c.args.lines.now c.loop-line.line-index _ c.loop-line.told c.in_ok-told.told c.loop-line-test.true is _ _ _ so_far.wrote c.in_ok-told.ensures.ok;
    }
