use Rattle.std.specs.Prelude.{length}
use Rattle.board_space.specs.{Records.Stays, Rows.{AreHarts, Extends, seen_harts}}
use Rattle.board_space.proofs.board_rows.tell_harts.Given as goal

abbrev pub invariant-loop-number : goal.invariant-loop-number
invariant-loop-number l = record {
  row : Extends l.initial.row.items l.row.items l.number;
  harts : AreHarts l.harts.records.items l.row.items (length l.initial.row.items) l.number (seen_harts l.power l.board.machine);
  stay : Stays l.initial.harts.records.items l.harts.records.items;
}
