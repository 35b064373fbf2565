use Rattle.std.proofs.Common.{◌≡◌}
use Rattle.board_space.specs.Settings.{setting_of}
use Rattle.board_space.proofs.space.BoardSpace.stand.Given as goal

abbrev pub invariant-loop-number : goal.invariant-loop-number
invariant-loop-number l = record {
  board : l.self.board ≡ l.fn.self.board;
  rows : l.self.rows ≡ l.fn.self.rows;
  setting : setting_of l.self ≡ setting_of l.fn.self;
}
