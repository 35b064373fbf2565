use Rattle.std.proofs.Common.{ℕ, [], ◌≡◌, ◌<◌, length, get_or}
use Rattle.board_space.specs.Tracked.{IsTracked}
use Rattle.board_space.proofs.row_layout.tracked.Given as goal

abbrev pub invariant-loop-group : goal.invariant-loop-group
invariant-loop-group l = record {
  none : l.made.items ≡ [];
  covers : (k : ℕ) → k < length l.groups.items → get_or l.groups.items k 0 < l.group → IsTracked l.tracked k;
  only : (k : ℕ) → IsTracked l.tracked k → k < length l.groups.items;
}
