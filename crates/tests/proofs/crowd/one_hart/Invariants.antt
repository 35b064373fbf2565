use Rattle.ipi.specs.{Pairs.SameHarts, Seating.{IsSeatOf, pending_view_of_seat}}
use Rattle.tests.proofs.crowd.one_hart.Given as goal

abbrev pub invariant-loop-round : goal.invariant-loop-round
invariant-loop-round l = record {
  seat : IsSeatOf l.table l.seat;
  harts : SameHarts (pending_view_of_seat l.fn.seat) (pending_view_of_seat l.seat);
}
