use Rattle.std.proofs.lemmas.Result.{IfOk-weaker}
use Rattle.bench_schedules.proofs.Parts.{row_takes_place}
use Rattle.bench_schedules.proofs.drawn_orders.part_order.Goals as goal

pub returns-then-is_row-clause-placed : goal.returns-then-is_row-clause-placed
returns-then-is_row-clause-placed g c =
    IfOk-weaker c.order_of.result _ _ (λ order is. row_takes_place c.args.part.now order.items (c.is_row.ensures c.if-is_row.true) is) c.order_of.ensures.order
