use Rattle.std.proofs.Common.{◌≡◌, ◌<◌, ℕ}
use Rattle.model_board.specs.{Boards.Board, LeftOut.{IsLeftOut, IsProbed}}
use Rattle.board_space.specs.{Rows.Stands, Settings.setting_of}
use Rattle.board_space.proofs.space.BoardSpace.are_probed.Given as goal

abbrev pub invariant-loop-register : goal.invariant-loop-register
invariant-loop-register l = record {
  rows : l.self.rows ≡ l.fn.self.rows;
  setting : setting_of l.self ≡ setting_of l.fn.self;
  probed : (k : ℕ) → k < l.register → (b : Board) → Stands l.fn.self.rows l.row b → IsLeftOut l.hart k b → IsProbed l.hart k b;
}
