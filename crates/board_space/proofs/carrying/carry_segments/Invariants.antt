use Rattle.std.specs.Prelude.{length}
use Rattle.board_space.specs.{Carried.{AreLearned, AreRightWords, AreSameWords}, Rows.{Extends, Grows}}
use Rattle.board_space.proofs.carrying.carry_segments.Given as goal

abbrev pub invariant-loop-place : goal.invariant-loop-place
invariant-loop-place l = record {
  row : Extends l.initial.out.items l.out.items l.place;
  right : AreRightWords l.from l.to l.memo;
  same : AreSameWords l.from l.row l.first l.to l.out.items (length l.initial.out.items) l.place;
  learned : AreLearned l.learns l.initial.memo l.memo l.row l.first l.out.items (length l.initial.out.items) l.place;
  grows : Grows l.initial.to l.to;
}
