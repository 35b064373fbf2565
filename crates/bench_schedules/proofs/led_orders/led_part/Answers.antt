use Rattle.std.proofs.lemmas.Result.{IfOk-weaker}
use Rattle.bench_schedules.proofs.Parts.{row_takes_place}
use Rattle.bench_schedules.proofs.led_orders.led_part.Goals as goal

pub returns-then-is_row : goal.returns-then-is_row
returns-then-is_row c = record {
  placed = IfOk-weaker c.led_row.result _ _ (λ order is. row_takes_place c.args.part.now order.items (c.is_row.ensures c.if-is_row.true) is) c.led_row.ensures.order;
}
