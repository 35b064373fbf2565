use Rattle.std.proofs.Common.{ℕ, ◌≡◌, ◌<◌, suc}
use Rattle.model_board.specs.Boards.{Board}
use Rattle.state_space.specs.Bounded.{Turns}
use Rattle.board_space.specs.{Few.turn_number, Rows.Stands, Settings.{asked_of, setting_of, RowsStay}, Space.Steps}
use Rattle.board_space.proofs.space.BoardSpace.waits_at.Given as goal

abbrev pub invariant-loop-turn : goal.invariant-loop-turn
invariant-loop-turn l = record {
  stay : RowsStay l.fn.self l.self;
  setting : setting_of l.self ≡ setting_of l.fn.self;
  turned : (b : Board) → Stands l.fn.self.rows l.row b → Turns (Steps (asked_of l.fn.self)) turn_number l.hart l.turn b l.self.board.board;
  away : (b : Board) → Stands l.fn.self.rows l.row b → (k : ℕ) → k < l.turn → Turns (Steps (asked_of l.fn.self)) turn_number l.hart (suc k) b b → ⊥;
}
