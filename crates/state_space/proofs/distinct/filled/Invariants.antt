use Rattle.state_space.specs.Tables.{IsTable}
use Rattle.state_space.proofs.distinct.filled.Given as goal

abbrev pub invariant-loop-number : goal.invariant-loop-number
invariant-loop-number g l = IsTable l.slots.items (λ k. g.P.Pool.hash_of (g.P.Pool.entry l.pool k)) l.number
