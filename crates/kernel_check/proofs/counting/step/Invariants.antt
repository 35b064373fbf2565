use Rattle.std.proofs.Common.{◌≡◌}
use Rattle.kernel_check.proofs.counting.step.Given as goal

abbrev pub invariant-loop-number : goal.invariant-loop-number
invariant-loop-number l = l.board.size ≡ l.initial.board.size
