use Rattle.std.proofs.Common.{ℕ, ◌<◌}
use Rattle.board_space.specs.Searches.{HasTurn}
use Rattle.board_space.proofs.followed.has_turns.Given as goal

abbrev pub invariant-loop-hart : goal.invariant-loop-hart
invariant-loop-hart l = (h : ℕ) → h < l.hart → HasTurn l.graph l.row h
