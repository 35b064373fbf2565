use Rattle.board_space.proofs.Putting.{ArePut}
use Rattle.board_space.proofs.board_rows.put_harts.Given as goal

abbrev pub invariant-loop-place : goal.invariant-loop-place
invariant-loop-place l = ArePut l.harts.records.items l.row l.initial.board l.board l.place
