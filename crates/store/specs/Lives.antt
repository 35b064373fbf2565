-- One life of the durable state, as a store tells it, and what a command makes of it.
-- Source: docs/STORE.md, "A life"; docs/DURABLE.md.
use Rattle.std.specs.Prelude.{◌≡◌, ◌⊎◌, ℕ, ◌+◌, ◌<◌, Bool, true, false, List, [], ◌∷◌, ◌++◌, Option, Some, None, length, Result, Ok, Err}
use Rattle.board_model.specs.Durable.{DurableState, Image, Change, refusal_of, fold, ends_life}
use Rattle.board_model.specs.Shapes.{Size, ram_bytes_of}
use Rattle.disk.specs.Facts.{Facts, Failed}
use Rattle.disk.specs.FaultState.{FaultState, Cause}
use Rattle.board_model.specs.Views.{number_of_refusal, durable_of}
use Rattle.board_model.specs.declared.refusal.Refusal.{Refusal}
use Rattle.board_model.specs.declared.refusal.Refusal.TheVariants.{BadShape, NoImage, BadImage, Device, Down, Over, JournalFull, Memory}

-- what the open found, the commands acknowledged since, the one whose fate is in doubt, and whether the life
-- has ended
pub record Life : Type 0 where
  pub found : DurableState
  pub journal : List Change
  pub doubt : Option Change
  pub over : Bool

-- the life that an open begins
abbrev pub begun : DurableState → Life
begun s = record { found = s; journal = []; doubt = None; over = false }

-- the durable state now, without a command in doubt
abbrev pub now_of : Life → DurableState
now_of life = fold life.found life.journal

-- the command goes to the disk
abbrev pub Reaches : Life → Change → Type 0
Reaches life c = (life.over ≡ false) × (length life.journal < 4096) × (refusal_of (now_of life) c ≡ None)

-- the life takes no command: it is over, or its journal is full
abbrev pub TakesNone : Life → Refusal → Type 0
TakesNone life e =
    ((e ≡ Over) × (life.over ≡ true)) ⊎ ((e ≡ JournalFull) × (life.over ≡ false) × (length life.journal ≡ 4096))

-- why a command is refused that found no other in doubt, and the life then
abbrev pub Refused : Life → Change → Refusal → Life → Type 0
Refused old c e new =
    ((e ≡ Device) × Reaches old c × (new ≡ old))
    ⊎ ((e ≡ Down) × Reaches old c × (new ≡ record old { doubt = Some c }))
    ⊎ ((e ≡ Over) × (old.over ≡ true) × (new ≡ old))
    ⊎ ((e ≡ JournalFull) × (old.over ≡ false) × (length old.journal ≡ 4096) × (new ≡ old))
    ⊎ ((refusal_of (now_of old) c ≡ Some (number_of_refusal e)) × (old.over ≡ false)
    × (length old.journal < 4096) × (new ≡ old))

-- the answer to a command that found no other in doubt, and the life then; a receipt is its place in the
-- journal
abbrev pub Applied : Life → Change → Result ℕ Refusal → Life → Type 0
Applied old c (Ok n) new =
    Reaches old c × (n ≡ length old.journal + 1)
    × (new ≡ record old { journal = old.journal ++ c ∷ []; over = ends_life c })
Applied old c (Err e) new = Refused old c e new

-- The state found is shown anew once an area was written over: it is as before, but for the memory of an
-- image that was dropped since, and the state now is the same.
pub record IsReseen (old : Life) (found : DurableState) : Type 0 where
  pub heads : durable_of found ≡ durable_of old.found
  pub now : fold found old.journal ≡ now_of old

-- why a suspension is refused that found no other command in doubt: as other commands, or 3 for what is not
-- of the board, and 11 where memory was refused
abbrev pub SuspendRefused : Type 0 → Life → Change → Refusal → Life → Type 0
SuspendRefused Fits old c e new =
    (Fits × Refused old c e new)
    ⊎ ((e ≡ BadShape) × (Fits → ⊥) × (old.over ≡ false) × (length old.journal < 4096) × (new ≡ old))
    ⊎ ((e ≡ Memory) × Fits × Reaches old c × (new ≡ old))
    ⊎ ((e ≡ Over) × (old.over ≡ true) × (new ≡ old))
    ⊎ ((e ≡ JournalFull) × (old.over ≡ false) × (length old.journal ≡ 4096) × (new ≡ old))

-- the answer to a suspension that found no other command in doubt, and the life then
abbrev pub SuspendApplied : Type 0 → Life → Change → Result ℕ Refusal → Life → Type 0
SuspendApplied Fits old c (Ok n) new = Fits × Applied old c (Ok n) new
SuspendApplied Fits old c (Err e) new = SuspendRefused Fits old c e new

-- the same, and the state found is shown anew
pub record Suspended (Fits : Type 0) (old : Life) (c : Change) (result : Result ℕ Refusal) (new : Life) : Type 0 where
  pub reseen : IsReseen old new.found
  pub told : SuspendApplied Fits (record old { found = new.found }) c result new

-- the memory is that of the image that stands
abbrev pub IsLoaded : DurableState → List ℕ → Type 0
IsLoaded s memory = (i : Image) × (s.image ≡ Some i) × (memory ≡ i.memory)

-- why the image is not loaded: 3 for a memory of another size, 8 without an image, 5 where the disk failed in
-- this call, 13 for an image that reads as no memory
abbrev pub LoadRefused : Size → DurableState → List ℕ → Facts → FaultState → Refusal → Facts → FaultState → Type 0
LoadRefused size s memory old m BadShape new n =
    (length memory ≡ ram_bytes_of size → ⊥) × (new.failures ≡ old.failures) × (n ≡ m)
LoadRefused size s memory old m NoImage new n =
    (length memory ≡ ram_bytes_of size) × (s.image ≡ None) × (new.failures ≡ old.failures) × (n ≡ m)
LoadRefused size s memory old m Device new n =
    (length memory ≡ ram_bytes_of size) × Failed old.failures new.failures × Cause m n
LoadRefused size s memory old m BadImage new n =
    (length memory ≡ ram_bytes_of size) × ((i : Image) × (s.image ≡ Some i) × (i.memory ≡ []))
    × (new.failures ≡ old.failures) × (n ≡ m)
LoadRefused size s memory old m e new n = ⊥
