-- The harts of a seat in a row.
use Rattle.std.specs.Prelude.{◌≡◌, ℕ, ◌+◌, List, [], ◌∷◌}
use Rattle.ipi.specs.Ledger.{PendingView}

-- they are the harts from `first` on
abbrev pub AreFrom : ℕ → List PendingView → Type 0
AreFrom first [] = Unit {0}
AreFrom first (d ∷ ds) = (d.hart ≡ first) × AreFrom (first + 1) ds
