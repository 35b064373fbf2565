use Rattle.std.specs.Prelude.{length}
use Rattle.board_space.{specs.Rows.{Extends, Grows}, proofs.Numbers.AreFirst}
use Rattle.board_space.proofs.board_rows.tell_segments.Given as goal

abbrev pub invariant-loop-segment : goal.invariant-loop-segment
invariant-loop-segment l = record {
  row : Extends l.initial.row.items l.row.items l.segment;
  segments : AreFirst l.layout l.words l.row.items (length l.initial.row.items) l.bytes l.segment;
  grows : Grows l.initial.words l.words;
}
