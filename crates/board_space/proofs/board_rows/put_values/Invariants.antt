use Rattle.board_space.proofs.Putting.{AreValuesPut}
use Rattle.board_space.proofs.board_rows.put_values.Given as goal

abbrev pub invariant-loop-place : goal.invariant-loop-place
invariant-loop-place l = AreValuesPut l.words l.values l.initial.board l.board l.place
