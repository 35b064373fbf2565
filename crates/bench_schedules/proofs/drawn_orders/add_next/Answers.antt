use Rattle.std.proofs.{Common.{arith, ap, length, length-append}, lemmas.{List.length-take-le, Result.IfOk-from_err}}
use Rattle.bench_schedules.proofs.drawn_orders.add_next.Goals as goal

pub returns-clause-added : goal.returns-clause-added
returns-clause-added g c =
    let count = c.part_length-count.ensures in
    record { some = count.0; within = count.1; new = c.in_ok-new.new.items; added = c.in_ok-append.ensures.items; placed = c.in_ok-new.ensures.placed }

pub returns-clause-few : goal.returns-clause-few
returns-clause-few g c =
    omega (
      arith,
      c.in_ok-new.ensures.few,
      ap length c.in_ok-append.ensures.items,
      length-append c.args.made.now.items c.in_ok-new.new.items,
      length-take-le c.part_length-count.result c.args.rest.now c.part_length-count.ensures.1,
    )

pub returns-in_err-new-clause-added : goal.returns-in_err-new-clause-added
returns-in_err-new-clause-added g c = IfOk-from_err c.from_residual.result _ c.from_residual.ensures.0

pub returns-in_err-new-clause-few : goal.returns-in_err-new-clause-few
returns-in_err-new-clause-few g c = IfOk-from_err c.from_residual.result _ c.from_residual.ensures.0

pub returns-in_err-append-clause-added : goal.returns-in_err-append-clause-added
returns-in_err-append-clause-added g c = IfOk-from_err c.from_residual-in_err-append.result _ c.from_residual-in_err-append.ensures.0

pub returns-in_err-append-clause-few : goal.returns-in_err-append-clause-few
returns-in_err-append-clause-few g c = IfOk-from_err c.from_residual-in_err-append.result _ c.from_residual-in_err-append.ensures.0
