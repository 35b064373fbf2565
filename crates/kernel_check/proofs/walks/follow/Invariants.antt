use Rattle.std.proofs.Common.{◌≡◌}
use Rattle.state_space.specs.Orders.{Leads}
use Rattle.board_space.specs.Space.{Happens}
use Rattle.kernel_check.proofs.walks.follow.Given as goal

abbrev pub invariant-loop-event : goal.invariant-loop-event
invariant-loop-event l = record {
  leads : Leads (Happens l.explored.asked) l.initial.board.board l.board.board;
  size : l.board.size ≡ l.explored.asked.size;
}
