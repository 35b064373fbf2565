use Rattle.std.proofs.Common.{◌≡◌, ◌<◌, ◌≤◌, ◌+◌, ◌*◌, ◌++◌, ℕ, length, map, flat_map, vec_capacity, slice_index, slice_index_or}
use Rattle.std.specs.Prelude.{All}
use Rattle.savers.specs.{Jobs.{IsSeated, drawn_by, lane_of}, Draws.{share_of, all_draws, draws_each}, Seats.{IsSeatOf, ticket_view_of}}
use Rattle.savers.proofs.seating.take_back.Given as goal

abbrev pub invariant-loop-savers : goal.invariant-loop-savers
invariant-loop-savers g l = record {
  seat : IsSeatOf l.ticket l.seat;
  left : share_of (ticket_view_of l.seat) + draws_each * length l.savers.items ≡ all_draws;
  drawn : (ticket_view_of l.seat).drawn ++ flat_map drawn_by l.savers.items ≡ flat_map drawn_by l.fn.savers.items;
  lanes : map g.L.Lane.lane_facts l.lanes.items ++ map (lane_of g.L.Lane.lane_facts) l.savers.items ≡ map (lane_of g.L.Lane.lane_facts) l.fn.savers.items;
  seated : All (IsSeated l.ticket) l.savers.items;
  many : length l.lanes.items + length l.savers.items ≡ length l.fn.savers.items;
  few : length l.fn.savers.items ≤ 4;
  room : length l.lanes.items + length l.savers.items ≤ vec_capacity l.lanes;
  rest : (i : ℕ) (d : _) → slice_index_or l.fn.savers.items (length l.lanes.items + i) d ≡ slice_index_or l.savers.items i d;
  four : length l.counts ≡ 4;
  counts : (i : ℕ) (d : _) → i < length l.lanes.items → slice_index l.counts i ≡ (slice_index_or l.fn.savers.items i d).filled;
  others : (i : ℕ) → length l.lanes.items ≤ i → slice_index l.counts i ≡ 0;
}

abbrev pub decreases-loop-savers : goal.decreases-loop-savers
decreases-loop-savers g l = length l.savers.items
