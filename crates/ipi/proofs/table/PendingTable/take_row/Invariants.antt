use Rattle.ipi.specs.{Seating.{IsSeatOf, pending_view_of_seat}, Copies.IsMade}
use Rattle.ipi.proofs.table.PendingTable.take_row.Given as goal

abbrev pub invariant-loop-number : goal.invariant-loop-number
invariant-loop-number l =
    record {
      own : IsSeatOf l.self l.seat;
      made : IsMade l.shape.harts l.target l.number (pending_view_of_seat l.fn.others) (pending_view_of_seat l.seat);
    }
