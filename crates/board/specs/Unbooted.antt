-- Why a board whose disk was opened is not powered on, and what is then left on the disk.
-- Source: docs/BOARD.md.
use Rattle.std.specs.Prelude.{◌≡◌, ◌⊎◌, ◌≤◌, ◌++◌, ℕ, List, [], ◌∷◌, Option, None, Some}
use Rattle.disk.specs.Facts.{Facts, Failed}
use Rattle.board_model.specs.Durable.{DurableState, Change, after}
use Rattle.board_model.specs.Shapes.{Size}
use Rattle.board_model.specs.Views.{number_of_refusal}
use Rattle.board_model.specs.declared.refusal.Refusal.{Refusal}
use Rattle.board_model.specs.declared.refusal.Refusal.TheVariants.{BadShape, Memory, Device, Down, NoImage, ImageThere}
use Rattle.store.specs.Leaves.{LeavesOnly, LeavesEither}
use Rattle.store.specs.Lives.{Life, begun}
use Rattle.board.specs.Boots.{PayloadsFit}

-- of a store that is open: a payload that does not fit, or memory
abbrev pub IsStartRefusal : Size → List (List ℕ) → Refusal → Type 0
IsStartRefusal size payloads BadShape = PayloadsFit size payloads → ⊥
IsStartRefusal size payloads Memory = PayloadsFit size payloads
IsStartRefusal size payloads e = ⊥

-- the command in doubt after a refusal at the first of these commands
abbrev pub doubt_by : Refusal → List Change → Option Change
doubt_by Down [] = None
doubt_by Down (c ∷ cs) = Some c
doubt_by e cs = None

-- The life that a refused boot leaves, of one that issues these commands in that state: some first of them
-- are acknowledged, but not all, and the next one was refused, which after 6 is in doubt. Where the refusal
-- is not the disk's, none was issued.
pub record IsLifeLeft (cs : List Change) (e : Refusal) (s : DurableState) (life : Life) : Type 0 where
  pub done : List Change
  pub later : List Change
  pub parts : cs ≡ done ++ later
  pub refused : later ≡ [] → cs ≡ []
  pub is : life ≡ record (begun s) { journal = done; doubt = doubt_by e later }
  pub by_disk : (e ≡ Device → ⊥) → (e ≡ Down → ⊥) → done ≡ []

-- the refusal of that number, or none
abbrev pub RefusesMode : Option ℕ → Option Refusal → Type 0
RefusesMode None None = Unit {0}
RefusesMode (Some n) (Some e) = (number_of_refusal e ≡ n) × ((e ≡ ImageThere) ⊎ (e ≡ NoImage))
RefusesMode None (Some e) = ⊥
RefusesMode (Some n) None = ⊥

-- what a crash leaves of a life that ends
abbrev pub LeavesLife : Option Change → Facts → Size → DurableState → Type 0
LeavesLife None disk size s = LeavesOnly disk size s
LeavesLife (Some c) disk size s = LeavesEither disk size s (after s c)

-- how often the disk has failed: a refusal by its failure counted one in this call
abbrev pub CountsRefusal : ℕ → Refusal → ℕ → Type 0
CountsRefusal old Device new = Failed old new
CountsRefusal old Down new = Failed old new
CountsRefusal old e new = old ≤ new
