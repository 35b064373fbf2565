use Rattle.std.proofs.Common.{◌≡◌}
use Rattle.kernel_check.proofs.own.run_life.Given as goal

abbrev pub invariant-loop-round : goal.invariant-loop-round
invariant-loop-round l = l.board.size ≡ l.initial.board.size
