use Rattle.bench_schedules.specs.Deals.{GoesOn}
use Rattle.bench_schedules.proofs.led_orders.deal_row.Given as goal

abbrev pub invariant-loop-line : goal.invariant-loop-line
invariant-loop-line l = GoesOn l.initial.deal l.deal
