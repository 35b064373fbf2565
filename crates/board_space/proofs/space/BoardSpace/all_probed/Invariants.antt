use Rattle.std.proofs.Common.{◌≡◌, ◌<◌, ℕ}
use Rattle.model_board.specs.{Boards.Board, LeftOut.AreProbed}
use Rattle.board_space.specs.{Rows.Stands, Settings.setting_of}
use Rattle.board_space.proofs.space.BoardSpace.all_probed.Given as goal

abbrev pub invariant-loop-number : goal.invariant-loop-number
invariant-loop-number l = record {
  rows : l.self.rows ≡ l.fn.self.rows;
  setting : setting_of l.self ≡ setting_of l.fn.self;
  probed : (h : ℕ) → h < l.number → h < l.fn.self.shape.harts → (b : Board) → Stands l.fn.self.rows l.row b → AreProbed h b;
}
