use Rattle.std.proofs.Common.{◌∙◌, length, ap, refl, arith}
use Rattle.savers.specs.{Jobs.{IsReady, lane_of}, declared.{saver.Saver.Saver, view.TicketView.TicketView}}
use Rattle.savers.proofs.HandedOn.{some_left, first_and_rest, one_less, pushed_one, all_pushed, facts_moved}
use Rattle.savers.proofs.seating.hand_out.Goals as goal

pub loop-lanes-preserved : goal.loop-lanes-preserved
loop-lanes-preserved g c =
    let facts = g.L.Lane.lane_facts in
    let so_far = c.loop-lanes.invariant in
    let lanes = c.loop-lanes.lanes.items in
    let rest = c.remove-lane.new.self.items in
    let lane = c.remove-lane.result in
    let before = c.loop-lanes.savers.items in
    let now = c.push_reserved.new.self.items in
    let saver : Saver g.row.L.Denot = record { lane = lane; seat = c.part-part.result; filled = 0 } in
    let taken = c.remove-lane.ensures in
    let part = c.part-part.ensures in
    let pushed = c.push_reserved.ensures in
    let split = first_and_rest lanes rest lane (some_left c.loop-lanes.lanes.len (length lanes) c.loop-lanes.lanes.ok.0 c.loop-lanes-test.ensures) taken.value taken.items in
    let less = one_less lanes rest lane split in
    let more = pushed_one before now saver pushed.items in
    record {
      seat = part.seat;
      drawn = ap (λ (v : TicketView). v.drawn) part.left ∙ so_far.drawn;
      left = omega (arith, ap (λ (v : TicketView). v.left) part.left, so_far.left, so_far.few, less, more);
      many = omega (arith, so_far.many, less, more);
      few = omega (arith, so_far.few, less, more);
      ready = all_pushed (IsReady c.args.ticket.now) before now saver pushed.items so_far.ready (part.part, part.new, refl);
      lanes = facts_moved (lane_of facts) facts before now lanes rest saver lane _ split pushed.items refl so_far.lanes;
      space = omega (arith, so_far.space, less, more, pushed.capacity);
      room = taken.capacity ∙ so_far.room;
    }
