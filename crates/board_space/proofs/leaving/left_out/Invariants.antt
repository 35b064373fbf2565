use Rattle.std.proofs.Common.{◌≡◌}
use Rattle.board_space.specs.Leaving.{IsLeft}
use Rattle.board_space.proofs.leaving.left_out.Given as goal

abbrev pub invariant-loop-number : goal.invariant-loop-number
invariant-loop-number l = record {
  id : l.left.id ≡ l.own.id;
  left : IsLeft l.own l.left;
}
