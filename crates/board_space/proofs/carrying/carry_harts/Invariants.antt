use Rattle.std.specs.Prelude.{length}
use Rattle.board_space.specs.{Carried.{AreLearned, AreRightRecords, AreSameRecords}, Records.Stays, Rows.Extends}
use Rattle.board_space.proofs.carrying.carry_harts.Given as goal

abbrev pub invariant-loop-place : goal.invariant-loop-place
invariant-loop-place l = record {
  row : Extends l.initial.out.items l.out.items l.place;
  right : AreRightRecords l.from.records.items l.to.records.items l.memo;
  same : AreSameRecords l.from.records.items l.row 1 l.to.records.items l.out.items (length l.initial.out.items) l.place;
  learned : AreLearned l.learns l.initial.memo l.memo l.row 1 l.out.items (length l.initial.out.items) l.place;
  stay : Stays l.initial.to.records.items l.to.records.items;
}
