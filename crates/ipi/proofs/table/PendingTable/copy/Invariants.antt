use Rattle.std.proofs.Common.{◌≡◌}
use Rattle.ipi.specs.{Seating.{IsSeatOf, pending_view_of_seat}, Copies.IsMade}
use Rattle.ipi.proofs.table.PendingTable.copy.Given as goal

abbrev pub invariant-loop-number : goal.invariant-loop-number
invariant-loop-number l =
    record {
      stays : IsSeatOf l.self l.seat;
      same : pending_view_of_seat l.seat ≡ pending_view_of_seat l.fn.seat;
      own : IsSeatOf l.made l.own;
      made : IsMade l.shape.harts l.number 0 (pending_view_of_seat l.fn.seat) (pending_view_of_seat l.own);
    }
