use Rattle.board_space.proofs.PutOver.{AreOthersPut}
use Rattle.board_space.proofs.row_puts.put_other_harts.Given as goal

abbrev pub invariant-loop-place : goal.invariant-loop-place
invariant-loop-place l = AreOthersPut l.harts.records.items l.row l.initial.board l.board l.place
