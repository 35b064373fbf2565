use Rattle.board_session.proofs.Reading.{Reading}
use Rattle.board_session.proofs.lines.next_line.Given as goal

abbrev pub invariant-loop : goal.invariant-loop
invariant-loop g l = Reading (g.I.Read.remaining l.fn.input) (g.I.Read.remaining l.input) l.line.items
