use Rattle.std.proofs.Common.{◌≡◌}
use Rattle.model_board.specs.Boards.{Board}
use Rattle.state_space.specs.Successors.{found_width}
use Rattle.board_space.specs.{Covering.StandsAll, Expanding.AreTold, Mapped.map_in, Rows.Stands, Settings.{asked_of, setting_of, RowsStay}}
use Rattle.board_space.proofs.space.BoardSpace.add_some.Given as goal

abbrev pub invariant-loop-number : goal.invariant-loop-number
invariant-loop-number l = record {
  stay : RowsStay l.fn.self l.self;
  setting : setting_of l.self ≡ setting_of l.fn.self;
  width : found_width l.found ≡ found_width l.fn.found;
  told : (b : Board) → Stands l.fn.self.rows l.row b → AreTold (asked_of l.fn.self) (map_in l.fn.self.map) l.fn.self.leaves (StandsAll l.fn.self.leaves l.self.rows) l.found b l.number;
}
