use Rattle.std.proofs.Common.{◌≡◌, ℕ, ◌<◌, length}
use Rattle.state_space.specs.Deads.{IsMarked}
use Rattle.board_space.specs.{Covering.StandsAll, Searches.IsFollowed}
use Rattle.board_space.proofs.followed.open_rows.Given as goal

abbrev pub invariant-loop-row : goal.invariant-loop-row
invariant-loop-row l = record {
  each : length l.marks.items ≡ l.row;
  others : (k : ℕ) → k < length l.marks.items → (IsMarked l.marks.items k → ⊥) → IsFollowed l.space.shape.harts l.bound (StandsAll l.space.leaves l.space.rows) l.graph k;
}
