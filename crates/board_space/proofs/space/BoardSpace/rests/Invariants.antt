use Rattle.std.proofs.Common.{◌≡◌, ◌<◌, ℕ}
use Rattle.model_board.specs.{Boards.Board, Events.TurnOn}
use Rattle.board_space.specs.{Rows.Stands, Settings.{setting_of, RowsStay}}
use Rattle.board_space.proofs.space.BoardSpace.rests.Given as goal

abbrev pub invariant-loop-number : goal.invariant-loop-number
invariant-loop-number l = record {
  stay : RowsStay l.fn.self l.self;
  setting : setting_of l.self ≡ setting_of l.fn.self;
  rests : (h : ℕ) → h < l.number → (b : Board) → Stands l.fn.self.rows l.row b → h < l.fn.self.shape.harts → TurnOn h b b;
}
