use Rattle.std.proofs.lemmas.Result.{IfOk-from_err}
use Rattle.bench_schedules.proofs.led_orders.deal_led.Goals as goal

pub returns-in_err-given : goal.returns-in_err-given
returns-in_err-given c = IfOk-from_err c.from_residual.result _ c.from_residual.ensures.0
