-- Entries that are pairwise distinct.
use Rattle.std.specs.Prelude.{◌≡◌, ◌⊎◌, ℕ, ◌+◌, ◌<◌, List}
use Rattle.state_space.specs.declared.probes.Probed.{Probed}
use Rattle.state_space.specs.declared.probes.Probed.TheVariants.{Found, Free, Full}
use Rattle.state_space.specs.Tables.{IsTable, IsFree}

-- no two entries are equal
abbrev pub AreDistinct : {T : Type 0} → (ℕ → List T) → ℕ → Type 0
AreDistinct entry count = (i j : ℕ) → i < count → j < count → entry i ≡ entry j → i ≡ j

-- Entries that are pairwise distinct, fewer than 2^32 - 1, and the table by which an equal one is found.
pub record AreKept {T : Type 0} (entry : ℕ → List T) (count : ℕ) (hash_of : List T → ℕ) (slots : List ℕ) : Type 0 where
  pub table : IsTable slots (λ k. hash_of (entry k)) count
  pub distinct : AreDistinct entry count

-- What `put` answers of a key: the number of an entry that is the key. The first ones stay as they are.
pub record IsPut {T : Type 0} (old : ℕ → List T) (before : ℕ) (new : ℕ → List T) (after : ℕ) (key : List T) (number : ℕ) : Type 0 where
  pub within : number < after
  pub is : new number ≡ key
  -- none was added, or the key is the last, and no earlier one was equal
  pub added : (after ≡ before) ⊎ ((after ≡ before + 1) × (number ≡ before) × ((k : ℕ) → k < before → old k ≡ key → ⊥))

abbrev pub Stay : {T : Type 0} → (ℕ → List T) → ℕ → (ℕ → List T) → Type 0
Stay old before new = (k : ℕ) → k < before → new k ≡ old k

-- what a search for a key finds
abbrev pub IsProbed : {T : Type 0} → (ℕ → List T) → ℕ → List ℕ → ℕ → List T → Probed → Type 0
IsProbed entry count slots hash key (Found n) = (n < count) × (entry n ≡ key)
IsProbed entry count slots hash key (Free place) = IsFree slots hash place × ((k : ℕ) → k < count → entry k ≡ key → ⊥)
IsProbed entry count slots hash key Full = Unit {0}
