use Rattle.std.proofs.Common.{◌≡◌, ◌+◌, ◌++◌, length}
use Rattle.tallies.specs.Seats.{IsSeatIn, harts_in, one_by_one, AreSeats, views_by_seat, all_views}
use Rattle.tallies.proofs.seats.split.Given as goal

abbrev pub invariant-loop-place : goal.invariant-loop-place
invariant-loop-place g l = record {
  seat : IsSeatIn (g.T.SeatTable.id l.table) l.rest;
  are : AreSeats (IsSeatIn (g.T.SeatTable.id l.table)) l.seats.items;
  apart : views_by_seat harts_in l.seats.items ++ one_by_one (harts_in l.rest) ≡ one_by_one (harts_in l.fn.seat);
  harts : all_views harts_in l.seats.items ++ harts_in l.rest ≡ harts_in l.fn.seat;
  count : length l.seats.items ≡ l.place;
  left : l.place + length (harts_in l.rest) ≡ g.T.SeatTable.count l.table;
}
