use Rattle.std.proofs.Common.{◌≡◌, ◌<◌, ◌+◌, ℕ, All, length, slice_index_or}
use Rattle.crew.specs.Handed.{IsPlaced, MayBeMade}
use Rattle.crew.proofs.hands.make_rows.Given as goal

abbrev pub invariant-loop-one : goal.invariant-loop-one
invariant-loop-one g l = record {
  as_many : length l.slots ≡ length l.initial.slots;
  made : All (IsPlaced (g.T.Task.is_row l.task) l.first (length l.initial.slots)) l.made.items;
  slots : (i : ℕ) (d : _) → i < length l.initial.slots → MayBeMade (g.T.Task.is_row l.task) (l.first + i) (slice_index_or l.slots i d);
}

abbrev pub decreases-loop-one : goal.decreases-loop-one
decreases-loop-one g l = length l.made.items
