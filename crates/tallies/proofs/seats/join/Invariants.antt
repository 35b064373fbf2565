use Rattle.std.proofs.Common.{◌≡◌, ◌++◌, length}
use Rattle.tallies.specs.Seats.{IsSeatIn, harts_in, AreSeats, all_views}
use Rattle.tallies.proofs.seats.join.Given as goal

abbrev pub invariant-loop-before : goal.invariant-loop-before
invariant-loop-before g l = record {
  seat : IsSeatIn (g.T.SeatTable.id l.table) l.whole;
  are : AreSeats (IsSeatIn (g.T.SeatTable.id l.table)) l.seats.items;
  harts : all_views harts_in l.seats.items ++ harts_in l.whole ≡ all_views harts_in l.fn.seats.items;
}

abbrev pub decreases-loop-before : goal.decreases-loop-before
decreases-loop-before g l = length l.seats.items
