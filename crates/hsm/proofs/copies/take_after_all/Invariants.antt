use Rattle.std.proofs.Common.{◌≡◌}
use Rattle.hsm.specs.{Seating.{IsSeatOf, hart_view_of_seat}, Copies.IsMade}
use Rattle.hsm.proofs.copies.take_after_all.Given as goal

abbrev pub invariant-loop-number : goal.invariant-loop-number
invariant-loop-number l =
    record {
      seat : IsSeatOf l.table l.seat;
      same : hart_view_of_seat l.seat ≡ hart_view_of_seat l.fn.seat;
      own : IsSeatOf l.made l.own;
      made : IsMade l.shape.harts l.first l.number (hart_view_of_seat l.fn.seat) (hart_view_of_seat l.own);
    }
