use Rattle.std.proofs.Common.{◌≡◌, ℕ, ◌<◌, ◌-◌, length}
use Rattle.state_space.specs.Tables.{slot_at, number_at, AreTaken}
use Rattle.state_space.proofs.probes.probe.Given as goal

abbrev pub invariant-loop-step : goal.invariant-loop-step
invariant-loop-step g l = record {
  there : l.place ≡ slot_at (length l.slots - 1) (g.P.Pool.hash_of l.key) l.step;
  within : l.place < length l.slots;
  taken : AreTaken l.slots (g.P.Pool.hash_of l.key) l.step;
  others : (j : ℕ) → j < l.step → g.P.Pool.entry l.pool (number_at l.slots (g.P.Pool.hash_of l.key) j) ≡ l.key → ⊥;
}
