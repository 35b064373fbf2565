use Rattle.bench_schedules.specs.Deals.{GoesOn}
use Rattle.bench_schedules.proofs.led_orders.deal_led.Given as goal

abbrev pub invariant-loop-slice : goal.invariant-loop-slice
invariant-loop-slice l = GoesOn l.initial.deal l.deal
