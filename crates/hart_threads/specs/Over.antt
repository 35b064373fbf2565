-- How a life ends: by one command, which is the last of its journal; and the word that then says that it is over. Source: docs/THREADS.md,
-- "The end of a loop".
use Rattle.std.specs.Prelude.{◌≡◌, ◌&&◌, ℕ, Bool, true, false, not, List, [], ◌∷◌, Option, Some, None}
use Rattle.atomic_table.specs.Seated.{TableId}
use Rattle.board_model.specs.Durable.{Change, ends_life}
use Rattle.board_model.specs.declared.durable.Entry.{Entry}
use Rattle.store.specs.Lives.{Life}
use Rattle.tallies.specs.Halts.{Watched}
use Rattle.hart_threads.specs.Called.{IsLastOf}
use Rattle.hart_threads.specs.Threads.{is_end}

-- none of these commands ends a life
abbrev pub none_ends : List Change → Bool
none_ends [] = true
none_ends (c ∷ cs) = not (ends_life c) && none_ends cs

-- the last one does, and no other
abbrev pub ends_at_last : List Change → Bool
ends_at_last [] = false
ends_at_last (c ∷ []) = ends_life c
ends_at_last (c ∷ d ∷ cs) = not (ends_life c) && ends_at_last (d ∷ cs)

-- The watch that may set the word is there until a command has ended the life. That command is then the journal's last, and no other of
-- them ends a life.
pub record IsMarked (over : TableId) (ender : Option Watched) (life : Life) : Type 0 where
  pub going : (w : Watched) → ender ≡ Some w → (w.of ≡ over) × (w.may_set ≡ true) × (none_ends life.journal ≡ true)
  pub ended : ender ≡ None → (life.over ≡ true) × (ends_at_last life.journal ≡ true)

-- the receipt of a command that ends a life is that of the last command
abbrev pub IsLastEnd : List Change → ℕ × Entry → Type 0
IsLastEnd journal t = is_end t.1 ≡ true → IsLastOf journal t.0 t.1
