use Rattle.std.proofs.Common.{◌≡◌, take, All}
use Rattle.bench_schedules.specs.Orders.{IsTurn}
use Rattle.bench_schedules.proofs.rows.row_length.Given as goal

abbrev pub invariant-loop-line : goal.invariant-loop-line
invariant-loop-line l = record {
  count : l.count ≡ l.line-index;
  turns : All IsTurn (take l.line-index l.lines);
}
