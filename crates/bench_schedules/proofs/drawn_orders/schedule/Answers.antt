use Rattle.std.proofs.{Common.{arith, ap, length, length-drop}, lemmas.Result.IfOk-from_err}
use Rattle.bench_schedules.proofs.Parts.{left_behind, part_placed}
use Rattle.bench_schedules.proofs.drawn_orders.schedule.Goals as goal

pub loop-rest-preserved : goal.loop-rest-preserved
loop-rest-preserved g c =
    let made = c.loop-rest.made.items in
    let rest = c.loop-rest.rest.now in
    let count = c.in_ok-count.count in
    let part = c.in_ok-count.ensures in
    record {
      order = part_placed c.args.lines.now made rest c.add_next.new.made.items count c.loop-rest.invariant.order part.added;
      few = omega (arith, c.loop-rest.invariant.few, part.added.within, c.more_for-more.ensures, part.few, ap length (left_behind rest count), length-drop count rest);
    }

pub returns-in_err-count-clause-order : goal.returns-in_err-count-clause-order
returns-in_err-count-clause-order g c = IfOk-from_err c.from_residual.result _ c.from_residual.ensures.0

pub returns-in_err-count-clause-few : goal.returns-in_err-count-clause-few
returns-in_err-count-clause-few g c = IfOk-from_err c.from_residual.result _ c.from_residual.ensures.0
