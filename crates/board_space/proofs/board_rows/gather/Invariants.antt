use Rattle.std.proofs.Common.{ℕ, ◌≡◌, ◌*◌, ◌<◌, length, get_or}
use Rattle.ram.specs.Memory.{value}
use Rattle.board_space.proofs.board_rows.gather.Given as goal

abbrev pub invariant-loop-word : goal.invariant-loop-word
invariant-loop-word l = record {
  long : length l.values.items ≡ l.word-index;
  each : (j : ℕ) → j < l.word-index → get_or l.values.items j 0 ≡ value l.bytes (8 * get_or l.words j 0) 8;
}
