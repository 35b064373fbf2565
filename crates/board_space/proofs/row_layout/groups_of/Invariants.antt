use Rattle.std.proofs.Common.{ℕ, ◌≡◌, ◌≢◌, ◌<◌, length, get_or}
use Rattle.board_space.proofs.row_layout.groups_of.Given as goal

abbrev pub invariant-loop-by : goal.invariant-loop-by
invariant-loop-by l = record {
  long : length l.groups.items ≡ l.by-index;
  some : (k : ℕ) → k < l.by-index → get_or l.writers k 0 ≢ 0 → get_or l.groups.items k 0 < 9;
}
