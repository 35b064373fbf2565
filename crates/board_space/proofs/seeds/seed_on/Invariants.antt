use Rattle.std.proofs.Common.{◌≡◌}
use Rattle.board_space.proofs.seeds.seed_on.Given as goal

abbrev pub invariant-loop-longest : goal.invariant-loop-longest
invariant-loop-longest l = l.board.size ≡ l.question.shape
