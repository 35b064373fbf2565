use Rattle.std.proofs.Common.{◌≡◌, ℕ, ◌<◌, true, false, get_or}
use Rattle.state_space.proofs.ends.first_dead.Given as goal

abbrev pub invariant-loop-row : goal.invariant-loop-row
invariant-loop-row g l = (k : ℕ) → k < l.row → get_or l.marks.items k false ≡ true
