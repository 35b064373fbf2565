use Rattle.std.proofs.Common.{◌≡◌}
use Rattle.model_board.specs.LeftOut.{StandsFor}
use Rattle.board_space.proofs.leaving.leave_all.Given as goal

abbrev pub invariant-loop-number : goal.invariant-loop-number
invariant-loop-number l = record {
  stands : StandsFor l.board.board l.fn.board.board;
  memory : l.board.machine.memory ≡ l.fn.board.machine.memory;
  size : l.board.size ≡ l.fn.board.size;
  raw : l.board.machine.size ≡ l.fn.board.machine.size;
}
