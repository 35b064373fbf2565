use Rattle.board_space.proofs.Putting.{AreSegmentsPut}
use Rattle.board_space.proofs.board_rows.put_segments.Given as goal

abbrev pub invariant-loop-segment : goal.invariant-loop-segment
invariant-loop-segment l = AreSegmentsPut l.layout l.words l.from l.row l.initial.board l.board l.segment
