use Rattle.std.proofs.Common.{ℕ, ◌≡◌, ◌*◌, ◌<◌, get_or}
use Rattle.ram.specs.Memory.{value}
use Rattle.board_space.proofs.board_rows.are_held.Given as goal

abbrev pub invariant-loop-place : goal.invariant-loop-place
invariant-loop-place l = (j : ℕ) → j < l.place → get_or l.values j 0 ≡ value l.bytes (8 * get_or l.words j 0) 8
