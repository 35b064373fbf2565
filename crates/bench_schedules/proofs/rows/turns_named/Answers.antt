use Rattle.std.proofs.Common.{arith, ◌∙◌}
use Rattle.bench_schedules.proofs.Counts.{counted_more, turn_at, turns_at_most}
use Rattle.bench_schedules.proofs.rows.turns_named.Goals as goal

pub loop-line-preserved : goal.loop-line-preserved
loop-line-preserved c = let row = c.args.row.now in let i = c.loop-line.line-index in let line = c.line-item.result in record {
  named = λ h. omega (arith, c.count_turns.ensures.counted h, c.loop-line.invariant.named h, counted_more h row i line c.loop-line-test.true c.line-item.is);
  others = λ h past. c.count_turns.ensures.others h past ∙ c.loop-line.invariant.others h past;
  few = λ h. omega (arith, c.count_turns.ensures.counted h, c.loop-line.invariant.few h, turns_at_most h line (turn_at row i line c.loop-line-test.true c.line-item.is c.requires.turns));
}
