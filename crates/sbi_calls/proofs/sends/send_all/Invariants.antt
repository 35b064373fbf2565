use Rattle.ipi.specs.{Seating.{IsSeatOf, harts_of, pending_view_of_seat, pending_views_in}, Pairs.SameHarts}
use Rattle.sbi_calls.{specs.Steps.Sends, proofs.Raised.Sent}
use Rattle.sbi_calls.proofs.sends.send_all.Given as goal

abbrev pub invariant-loop-number : goal.invariant-loop-number
invariant-loop-number l = record {
  seat : IsSeatOf l.fn.tables.pending l.pending;
  same : SameHarts (pending_view_of_seat l.fn.pending) (pending_view_of_seat l.pending);
  sends : Sends l.fn.by l.fn.targets l.number (pending_views_in l.fn.pending) (pending_views_in l.pending);
  sent : Sent (harts_of l.fn.tables.pending) l.fn.by l.fn.targets l.number (pending_view_of_seat l.fn.pending) (pending_view_of_seat l.pending);
}
