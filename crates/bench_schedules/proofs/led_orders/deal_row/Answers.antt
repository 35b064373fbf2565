use Rattle.std.proofs.lemmas.Result.{IfOk-from_err}
use Rattle.bench_schedules.proofs.led_orders.deal_row.Goals as goal

pub returns-in_err-deal_line : goal.returns-in_err-deal_line
returns-in_err-deal_line c = IfOk-from_err c.from_residual.result _ c.from_residual.ensures.0
