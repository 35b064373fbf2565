use Rattle.std.proofs.Common.{◌≡◌, ◌<◌, ℕ}
use Rattle.board_space.specs.{Mapped.map_in, Settings.setting_of, Space.KeepsSure}
use Rattle.board_space.proofs.space.BoardSpace.first_break.Given as goal

abbrev pub invariant-loop-number : goal.invariant-loop-number
invariant-loop-number l = record {
  board : l.self.board ≡ l.fn.self.board;
  rows : l.self.rows ≡ l.fn.self.rows;
  setting : setting_of l.self ≡ setting_of l.fn.self;
  keeps : (h : ℕ) → h < l.number → h < l.fn.self.shape.harts → KeepsSure (map_in l.fn.self.map) l.fn.self.leaves h l.fn.self.board.board;
}
