use Rattle.std.{proofs.Common.{◌≡◌, ◌≤◌, ◌+◌, ◌*◌, ◌++◌, [], length, map, vec_capacity}, specs.Prelude.All}
use Rattle.savers.specs.{Jobs.{IsReady, lane_of}, Draws.{all_draws, draws_each}, Seats.{IsSeatOf, ticket_view_of}}
use Rattle.savers.proofs.seating.hand_out.Given as goal

abbrev pub invariant-loop-lanes : goal.invariant-loop-lanes
invariant-loop-lanes g l = record {
  seat : IsSeatOf l.ticket l.seat;
  drawn : (ticket_view_of l.seat).drawn ≡ [];
  left : (ticket_view_of l.seat).left + draws_each * length l.savers.items ≡ all_draws;
  many : length l.savers.items + length l.lanes.items ≡ length l.initial.lanes.items;
  few : length l.savers.items + length l.lanes.items ≤ 4;
  ready : All (IsReady l.ticket) l.savers.items;
  lanes : map (lane_of g.L.Lane.lane_facts) l.savers.items ++ map g.L.Lane.lane_facts l.lanes.items ≡ map g.L.Lane.lane_facts l.initial.lanes.items;
  space : length l.savers.items + length l.lanes.items ≤ vec_capacity l.savers;
  room : vec_capacity l.lanes ≡ vec_capacity l.initial.lanes;
}

abbrev pub decreases-loop-lanes : goal.decreases-loop-lanes
decreases-loop-lanes g l = length l.lanes.items
