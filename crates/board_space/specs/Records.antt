-- Records by their numbers.
use Rattle.std.specs.Prelude.{◌≡◌, ℕ, ◌<◌, List, length, get_or}

-- that number has the record
abbrev pub IsAt : {T : Type 0} → List T → ℕ → T → Type 0
IsAt items number item = (number < length items) × (item ≡ get_or items number item)

-- each stays
abbrev pub Stays : {T : Type 0} → List T → List T → Type 0
Stays {T} old new = (n : ℕ) (x : T) → IsAt old n x → IsAt new n x
