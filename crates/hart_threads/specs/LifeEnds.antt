-- What holds of the commands that end a life: resets and suspensions to disk. Source: docs/THREADS.md, "The bus".
use Rattle.std.specs.Prelude.{◌≡◌, ℕ, true, List, Some, slice_get}
use Rattle.board_model.specs.Durable.{Change, ends_life}
use Rattle.store.specs.Lives.{Life}

-- if that command ends the life in which it is issued, it is such a one
abbrev pub EndsAs : (Change → Type 0) → Change → Type 0
EndsAs P c = ends_life c ≡ true → P c

-- each of these that ends a life is such a one
abbrev pub AllEndAs : (Change → Type 0) → List Change → Type 0
AllEndAs P cs = (k : ℕ) (c : Change) → slice_get cs k ≡ Some c → EndsAs P c

-- each of a life that was acknowledged is such a one, and one in doubt such a one
pub record IsEndedAs (P Q : Change → Type 0) (life : Life) : Type 0 where
  pub journal : AllEndAs P life.journal
  pub doubt : (c : Change) → life.doubt ≡ Some c → EndsAs Q c
