use Rattle.std.proofs.Common.{◌≡◌}
use Rattle.board_space.proofs.seeds.widen.Given as goal

abbrev pub invariant-loop-touch : goal.invariant-loop-touch
invariant-loop-touch l = l.board ≡ l.fn.board
