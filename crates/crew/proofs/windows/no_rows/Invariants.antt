use Rattle.std.proofs.Common.{◌≡◌, All, None, length}
use Rattle.crew.proofs.windows.no_rows.Given as goal

abbrev pub invariant-loop : goal.invariant-loop
invariant-loop g l = (length l.slots.items ≡ l.counter) × All (λ slot. slot ≡ None) l.slots.items
