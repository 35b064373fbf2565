use Rattle.std.proofs.Common.{ℕ, ◌<◌, IsTrue}
use Rattle.board_model.specs.HartSets.{Has}
use Rattle.model_board.specs.Masks.{map_of}
use Rattle.model_board.proofs.alone.check_targets.Given as goal

abbrev pub invariant-loop-number : goal.invariant-loop-number
invariant-loop-number l = (t : ℕ) → t < l.number → Has t l.targets → IsTrue ((map_of l.map).sends l.hart t)
