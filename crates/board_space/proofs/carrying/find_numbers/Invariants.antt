use Rattle.std.specs.Prelude.{length}
use Rattle.board_space.specs.{Carried.AreFound, Rows.Extends}
use Rattle.board_space.proofs.carrying.find_numbers.Given as goal

abbrev pub invariant-loop-place : goal.invariant-loop-place
invariant-loop-place l = record {
  row : Extends l.initial.out.items l.out.items l.place;
  found : AreFound l.memo l.row l.first l.out.items (length l.initial.out.items) l.place;
}
