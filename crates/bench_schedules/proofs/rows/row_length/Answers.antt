use Rattle.bench_schedules.proofs.Counts.{turns_more}
use Rattle.std.proofs.Common.{arith}
use Rattle.bench_schedules.proofs.rows.row_length.Goals as goal

pub loop-line-preserved : goal.loop-line-preserved
loop-line-preserved c = record {
  count = omega (arith, c.loop-line.invariant.count);
  turns = turns_more c.args.lines.now c.loop-line.line-index c.line-item.result c.loop-line-test.true c.line-item.is c.loop-line.invariant.turns (c.is_turn.ensures.turns c.if-is_turn.true);
}
