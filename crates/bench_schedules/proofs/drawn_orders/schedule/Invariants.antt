use Rattle.std.proofs.Common.{◌≤◌, ◌+◌, ◌++◌, length}
use Rattle.bench_schedules.specs.Orders.{IsOrderFor}
use Rattle.bench_schedules.proofs.drawn_orders.schedule.Given as goal

abbrev pub invariant-loop-rest : goal.invariant-loop-rest
invariant-loop-rest g l = record {
  order : IsOrderFor l.lines (l.made.items ++ l.rest);
  few : length l.made.items + length l.rest + l.left ≤ 65535;
}

abbrev pub decreases-loop-rest : goal.decreases-loop-rest
decreases-loop-rest g l = length l.rest
