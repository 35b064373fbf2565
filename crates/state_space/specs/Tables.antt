-- Entries in a row, told by their numbers, and a table of slots by which an equal entry is found: open addressing, slot after slot.
use Rattle.std.specs.Prelude.{◌≡◌, ℕ, zero, suc, ◌+◌, ◌-◌, ◌<◌, List, length, slice_index, bit_and}

-- the number in a slot that is free
abbrev pub EMPTY : ℕ
EMPTY = 4294967295

-- where an entry of a hash is sought after so many slots, in a table of one slot more than `mask`
unfoldable pub slot_at : ℕ → ℕ → ℕ → ℕ
slot_at mask hash zero = bit_and hash mask
slot_at mask hash (suc n) = bit_and (slot_at mask hash n + 1) mask

-- the number that stands there
abbrev pub number_at : List ℕ → ℕ → ℕ → ℕ
number_at slots hash n = slice_index slots (slot_at (length slots - 1) hash n)

-- none of the first slots is free
abbrev pub AreTaken : List ℕ → ℕ → ℕ → Type 0
AreTaken slots hash n = (j : ℕ) → j < n → number_at slots hash j ≡ EMPTY → ⊥

-- the number stands before each free slot of those where an entry of that hash is sought
abbrev pub IsHeld : List ℕ → ℕ → ℕ → Type 0
IsHeld slots hash number =
    (n : ℕ) → number_at slots hash n ≡ EMPTY → ((j : ℕ) → j < n → number_at slots hash j ≡ number → ⊥) → ⊥

-- the free slot where an entry of that hash belongs
pub record IsFree (slots : List ℕ) (hash place : ℕ) : Type 0 where
  pub after : ℕ
  pub there : slot_at (length slots - 1) hash after ≡ place
  pub within : place < length slots
  pub free : slice_index slots place ≡ EMPTY
  pub taken : AreTaken slots hash after

-- each number that stands in the table is one of the first so many
abbrev pub AreBelow : List ℕ → ℕ → Type 0
AreBelow slots count = (i : ℕ) → i < length slots → (slice_index slots i ≡ EMPTY → ⊥) → slice_index slots i < count

-- The table of the first so many entries, each of which has that hash.
pub record IsTable (slots : List ℕ) (hash : ℕ → ℕ) (count : ℕ) : Type 0 where
  pub some : 0 < length slots
  pub room : count < EMPTY
  pub below : AreBelow slots count
  pub held : (k : ℕ) → k < count → IsHeld slots (hash k) k
