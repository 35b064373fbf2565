use Rattle.std.proofs.lemmas.Result.{IfOk-from_err}
use Rattle.bench_schedules.proofs.led_orders.add_led.Goals as goal

pub returns : goal.returns
returns c =
    let count = c.part_length-count.ensures in
    record { some = count.0; within = count.1; new = c.in_ok-new.new.items; added = c.in_ok-append.ensures.items; placed = c.in_ok-new.ensures.placed }

pub returns-in_err-new : goal.returns-in_err-new
returns-in_err-new c = IfOk-from_err c.from_residual.result _ c.from_residual.ensures.0

pub returns-in_err-append : goal.returns-in_err-append
returns-in_err-append c = IfOk-from_err c.from_residual-in_err-append.result _ c.from_residual-in_err-append.ensures.0
