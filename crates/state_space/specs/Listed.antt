-- The successors of a row that can be paid, each with what is left after it.
use Rattle.std.specs.Prelude.{◌≡◌, ◌⊎◌, ℕ, ◌+◌, ◌<◌, List}
use Rattle.state_space.specs.Successors.{found_count, found_event, found_row}
use Rattle.state_space.specs.declared.found.Successors.{Successors}

-- the successor of that number stands among these, with that left; `with_left` is its row then
pub record ListsOne {Left : Type 0} (with_left : Left → List ℕ → List ℕ) (inner found : Successors) (i : ℕ) (u : Left) (k : ℕ) : Type 0 where
  pub within : k < found_count found
  pub event : found_event found k ≡ found_event inner i
  pub row : found_row found k ≡ with_left u (found_row inner i)

-- Of the first so many successors, each that can be paid is listed, and no other. `priced event u`: u is left after an event of that number.
pub record ListsAll {Left : Type 0} (priced : ℕ → Left → Type 0) (with_left : Left → List ℕ → List ℕ) (inner found : Successors) (n : ℕ) : Type 0 where
  pub complete : (i : ℕ) (u : Left) → i < n → priced (found_event inner i) u → (k : ℕ) × ListsOne with_left inner found i u k
  pub sound : (k : ℕ) → k < found_count found → (i : ℕ) × (u : Left) × (i < n) × priced (found_event inner i) u × ListsOne with_left inner found i u k

-- the next one was listed, or can't be paid
pub record ListsNext {Left : Type 0} (priced : ℕ → Left → Type 0) (with_left : Left → List ℕ → List ℕ) (inner old new : Successors) (n : ℕ) : Type 0 where
  pub grown : (k : ℕ) → k < found_count old → (found_event new k ≡ found_event old k) × (found_row new k ≡ found_row old k)
  pub told :
      ((u : Left) × priced (found_event inner n) u × ((v : Left) → priced (found_event inner n) v → v ≡ u)
      × (found_count new ≡ found_count old + 1) × ListsOne with_left inner new n u (found_count old))
      ⊎ ((found_count new ≡ found_count old) × ((v : Left) → priced (found_event inner n) v → ⊥))
