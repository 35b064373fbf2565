use Rattle.std.proofs.Common.{◌≡◌}
use Rattle.model_board.specs.Maps.{SameOutside}
use Rattle.board_space.specs.{Mapped.map_in, Space.SettlesSure}
use Rattle.board_space.proofs.settling.settle.Given as goal

abbrev pub invariant-loop-number : goal.invariant-loop-number
invariant-loop-number l = record {
  settles : SettlesSure l.fn.board.size (map_in l.map) l.leaves l.fn.board.board l.board.board;
  size : l.board.size ≡ l.fn.board.size;
  raw : l.board.machine.size ≡ l.fn.board.machine.size;
  memory : SameOutside (map_in l.map) l.fn.board.machine.memory l.board.machine.memory;
}
