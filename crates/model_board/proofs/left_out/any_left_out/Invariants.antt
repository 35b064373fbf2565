use Rattle.std.proofs.Common.{◌≡◌, ◌<◌, ℕ}
use Rattle.hart.specs.State.{reg}
use Rattle.model_board.specs.LeftOut.{LEFT_OUT as LEFT}
use Rattle.model_board.proofs.left_out.any_left_out.Given as goal

abbrev pub invariant-loop-number : goal.invariant-loop-number
invariant-loop-number l = record {
  none : (k : ℕ) → k < l.number → reg l.hart k ≡ LEFT → ⊥;
}
