use Rattle.std.proofs.{Common.{arith, length, ap, length-drop}, lemmas.Result.IfOk-from_err}
use Rattle.bench_schedules.proofs.Parts.{left_behind, part_placed}
use Rattle.bench_schedules.proofs.led_orders.led.Goals as goal

pub loop-rest-preserved : goal.loop-rest-preserved
loop-rest-preserved c =
    let made = c.loop-rest.made.items in
    let rest = c.loop-rest.rest.now in
    let new = c.add_led.new.made.items in
    let count = c.in_ok-count.count in
    record {
      order = part_placed c.args.lines.now made rest new count c.loop-rest.invariant.order c.in_ok-count.ensures;
      few = omega (arith, c.loop-rest.invariant.few, ap length (left_behind rest count), length-drop count rest);
    }

pub returns-in_err-count : goal.returns-in_err-count
returns-in_err-count c = IfOk-from_err c.from_residual.result _ c.from_residual.ensures.0
