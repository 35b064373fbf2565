use Rattle.std.proofs.Common.{◌≡◌, ℕ, length}
use Rattle.model_board.specs.Boards.{Board}
use Rattle.state_space.specs.{Deads.IsMarked, Graphs.row_at}
use Rattle.board_space.specs.{Covering.StandsAll, Few.IsLastBy, Searches.StandsBy}
use Rattle.board_space.proofs.followed.last_rows.Given as goal

abbrev pub invariant-loop-row : goal.invariant-loop-row
invariant-loop-row l = record {
  each : length l.marks.items ≡ l.row;
  lasts : (k : ℕ) → IsMarked l.marks.items k → (b : Board) → StandsBy l.bound (StandsAll l.space.leaves l.space.rows) (row_at l.graph k) b → IsLastBy l.bound b;
}
