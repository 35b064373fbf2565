use Rattle.std.proofs.Common.{◌≤◌, ◌++◌, length}
use Rattle.bench_schedules.specs.Orders.{IsOrderFor}
use Rattle.bench_schedules.proofs.led_orders.led.Given as goal

abbrev pub invariant-loop-rest : goal.invariant-loop-rest
invariant-loop-rest l = record {
  order : IsOrderFor l.lines (l.made.items ++ l.rest);
  few : length l.rest ≤ 65535;
}

abbrev pub decreases-loop-rest : goal.decreases-loop-rest
decreases-loop-rest l = length l.rest
