use Rattle.std.proofs.Common.{◌≡◌, ◌<◌, ℕ, true, false}
use Rattle.model_board.specs.{Boards.Board, Events.IsEnd}
use Rattle.state_space.specs.Successors.{found_width}
use Rattle.board_space.specs.{Covering.StandsAll, Expanding.{AreTold, AsksNone}, Mapped.map_in, Rows.Stands, Space.IsFor}
use Rattle.board_space.specs.Settings.{asked_of, setting_of, RowsStay}
use Rattle.board_space.proofs.space.BoardSpace.add_turns.Given as goal

abbrev pub invariant-loop-number : goal.invariant-loop-number
invariant-loop-number l = record {
  at : Stands l.self.rows l.self.row.items l.self.board.board;
  stay : RowsStay l.fn.self l.self;
  setting : setting_of l.self ≡ setting_of l.fn.self;
  width : found_width l.found ≡ found_width l.fn.found;
  told : (b : Board) → Stands l.fn.self.rows l.row b → AreTold (asked_of l.fn.self) (map_in l.fn.self.map) l.fn.self.leaves (StandsAll l.fn.self.leaves l.self.rows) l.found b l.number;
  asks : l.seen.asks ≡ false → (b : Board) → Stands l.fn.self.rows l.row b → (h : ℕ) → h < l.number → AsksNone (asked_of l.fn.self) h b;
  moves : l.seen.moves ≡ true → (b d : Board) → Stands l.fn.self.rows l.row b → IsFor l.fn.self.leaves b d → IsEnd d → ⊥;
}
