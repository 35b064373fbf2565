use Rattle.std.proofs.Common.{All, take}
use Rattle.debug_session.specs.Steps.{MakesNone}
use Rattle.debug_session.proofs.back.first_turn.Given as goal

abbrev pub invariant-loop-i : goal.invariant-loop-i
invariant-loop-i g l = All MakesNone (take l.i l.lines)
