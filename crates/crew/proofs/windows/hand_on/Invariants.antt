use Rattle.std.proofs.Common.{◌≡◌, ◌≤◌, ◌<◌, ◌+◌, ℕ, length, slice_index_or}
use Rattle.crew.specs.Handed.{MayBeMade, Handed}
use Rattle.crew.proofs.windows.hand_on.Given as goal

abbrev pub invariant-loop-i : goal.invariant-loop-i
invariant-loop-i g l = record {
  as_many : length l.slots ≡ length l.initial.slots;
  made : (k : ℕ) (d : _) → l.i ≤ k → k < length l.initial.slots → MayBeMade (g.T.Task.is_row l.task) (l.first + k) (slice_index_or l.slots k d);
  handed : Handed (g.T.Task.is_row l.task) g.S.Sink.takes l.first l.i l.initial.sink l.sink;
}
