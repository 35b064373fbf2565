use Rattle.std.proofs.Common.{◌≡◌, ◌+◌, take}
use Rattle.debug_session.specs.Turns.{turns_made}
use Rattle.debug_session.proofs.counts.turn_after.Given as goal

abbrev pub invariant-loop-i : goal.invariant-loop-i
invariant-loop-i l = l.left + turns_made (take l.i l.lines) ≡ l.turns
