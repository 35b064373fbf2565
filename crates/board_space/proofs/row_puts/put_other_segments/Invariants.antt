use Rattle.board_space.proofs.PutOver.{AreOtherSegmentsPut}
use Rattle.board_space.proofs.row_puts.put_other_segments.Given as goal

abbrev pub invariant-loop-segment : goal.invariant-loop-segment
invariant-loop-segment l = AreOtherSegmentsPut l.layout l.words l.at l.row l.initial.board l.board l.segment
