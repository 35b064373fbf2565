use Rattle.std.proofs.Common.{◌≤◌, length, drop}
use Rattle.debug_session.specs.Pasts.{NoRow}
use Rattle.debug_session.proofs.places.last_row.Given as goal

abbrev pub invariant-loop-i : goal.invariant-loop-i
invariant-loop-i l = record {
  few : l.i ≤ length l.lines;
  none : NoRow l.hart (drop l.i l.lines);
}

abbrev pub decreases-loop-i : goal.decreases-loop-i
decreases-loop-i l = l.i
