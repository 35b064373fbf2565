use Rattle.std.proofs.Common.{◌≡◌, take}
use Rattle.debug_session.specs.Turns.{turns_told}
use Rattle.debug_session.proofs.counts.turns_told.Given as goal

abbrev pub invariant-loop-i : goal.invariant-loop-i
invariant-loop-i l = l.sum ≡ turns_told (take l.i l.lines)
