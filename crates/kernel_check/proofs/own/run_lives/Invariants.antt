use Rattle.std.proofs.Common.{◌≡◌}
use Rattle.kernel_check.proofs.own.run_lives.Given as goal

abbrev pub invariant-loop-life : goal.invariant-loop-life
invariant-loop-life l = l.board.size ≡ l.initial.board.size
