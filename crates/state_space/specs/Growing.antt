-- A graph to which the next row's steps are being added.
use Rattle.std.specs.Prelude.{◌≡◌, ℕ, ◌+◌, ◌<◌, ◌≤◌, List, [], ◌∷◌, ◌++◌, length}
use Rattle.state_space.specs.declared.found.Successors.{Successors}
use Rattle.state_space.specs.declared.graph.Graph.{Graph}
use Rattle.state_space.specs.Numbered.{row_width}
use Rattle.state_space.specs.Pools.{IsPut, Stay}
use Rattle.state_space.specs.Successors.{found_event, found_row}
use Rattle.state_space.specs.Graphs.{count_of, row_at, target_of, event_of}

-- one step was added, to that row
pub record IsStepAdded (old new : Graph) (event : ℕ) (row : List ℕ) : Type 0 where
  pub number : ℕ
  pub put : IsPut (row_at old) (count_of old) (row_at new) (count_of new) row number
  pub stay : Stay (row_at old) (count_of old) (row_at new)
  pub targets : new.targets.items ≡ old.targets.items ++ number ∷ []
  pub events : new.events.items ≡ old.events.items ++ event ∷ []
  pub ends_at : new.ends_at.items ≡ old.ends_at.items
  pub is_end : new.is_end.items ≡ old.is_end.items
  pub width : row_width new.rows ≡ row_width old.rows

-- so many of the next row's steps were added
pub record IsGrowing (old new : Graph) (found : Successors) (n : ℕ) : Type 0 where
  pub rows : Stay (row_at old) (count_of old) (row_at new)
  pub grown : count_of old ≤ count_of new
  pub width : row_width new.rows ≡ row_width old.rows
  pub ends_at : new.ends_at.items ≡ old.ends_at.items
  pub is_end : new.is_end.items ≡ old.is_end.items
  pub targets : length new.targets.items ≡ length old.targets.items + n
  pub events : length new.events.items ≡ length old.events.items + n
  pub steps : (i : ℕ) → i < length old.targets.items → target_of new i ≡ target_of old i
  pub marks : (i : ℕ) → i < length old.events.items → event_of new i ≡ event_of old i
  pub lead : (i : ℕ) → i < n → target_of new (length old.targets.items + i) < count_of new
  pub successors : (i : ℕ) → i < n → row_at new (target_of new (length old.targets.items + i)) ≡ found_row found i
  pub their_events : (i : ℕ) → i < n → event_of new (length old.events.items + i) ≡ found_event found i
  pub new_rows : (k : ℕ) → count_of old ≤ k → k < count_of new → (i : ℕ) × (i < n) × (target_of new (length old.targets.items + i) ≡ k)
