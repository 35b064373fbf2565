use Rattle.std.proofs.Common.{ℕ, ◌≡◌, ◌⊎◌, ◌<◌, length, get_or}
use Rattle.board_space.specs.Tracked.{IsTracked, IsKept}
use Rattle.board_space.proofs.row_layout.add_group.Given as goal

abbrev pub invariant-loop-word : goal.invariant-loop-word
invariant-loop-word l = record {
  keeps : (k : ℕ) → IsTracked l.initial.tracked k → IsKept l.tracked l.made.items k;
  added : (k : ℕ) → k < l.word → get_or l.groups k 0 ≡ l.group → IsKept l.tracked l.made.items k;
  only : (k : ℕ) → IsKept l.tracked l.made.items k → IsTracked l.initial.tracked k ⊎ (k < length l.groups);
}
