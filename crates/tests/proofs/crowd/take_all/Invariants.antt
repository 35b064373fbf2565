use Rattle.std.proofs.Common.{ℕ, ◌<◌}
use Rattle.ipi.specs.{Pairs.Sits, Seating.{IsSeatOf, harts_of, pending_view_of_seat}}
use Rattle.tests.proofs.crowd.take_all.Given as goal

abbrev pub invariant-loop-number : goal.invariant-loop-number
invariant-loop-number l = record {
  seat : IsSeatOf l.table l.seat;
  all : (h : ℕ) → h < harts_of l.table → Sits h (pending_view_of_seat l.seat);
}
