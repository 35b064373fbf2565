use Rattle.std.proofs.Common.{◌≡◌}
use Rattle.kernel_check.proofs.counting.look_along.Given as goal

abbrev pub invariant-loop-made : goal.invariant-loop-made
invariant-loop-made l = l.board.size ≡ l.explored.asked.size
