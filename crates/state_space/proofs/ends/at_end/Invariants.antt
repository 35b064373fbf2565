use Rattle.std.proofs.Common.{◌≡◌, ℕ, length}
use Rattle.state_space.specs.{Deads.IsMarked, Graphs.IsEnd}
use Rattle.state_space.proofs.ends.at_end.Given as goal

abbrev pub invariant-loop-row : goal.invariant-loop-row
invariant-loop-row l = record {
  each : length l.marks.items ≡ l.row;
  ends : (k : ℕ) → IsMarked l.marks.items k → IsEnd l.graph k;
}
