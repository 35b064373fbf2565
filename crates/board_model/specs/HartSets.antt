-- Sets of harts, as the bits of a number.
use Rattle.std.specs.Prelude.{◌≡◌, ℕ}
use Rattle.std.specs.Int.{bit_at}

-- the hart is in the set
abbrev pub Has : ℕ → ℕ → Type 0
Has h set = bit_at set h ≡ 1
