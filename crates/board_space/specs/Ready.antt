-- What the memory of a board is after an event, and which words rows have to tell.
use Rattle.std.specs.Prelude.{◌≡◌, ◌≢◌, ◌⊎◌, ℕ, ◌-◌, ◌*◌, ◌<◌, ◌++◌, IsTrue, List, length, slice_index, replicate}
use Rattle.board_model.specs.Shapes.{Size, ram_bytes_of}
use Rattle.model_board.specs.Events.{Event}
use Rattle.model_board.specs.Maps.{Map, Keeps, SameOutside}
use Rattle.model_board.specs.Plain.{Sized}
use Rattle.board_space.specs.Layouts.{tracked_of, base_of}
use Rattle.board_space.specs.Tracked.{IsTracked}
use Rattle.board_space.specs.declared.row_layout.Layout.{Layout}

-- rows tell each word that some hart may write by the map
abbrev pub Tracks : Layout → Map → Type 0
Tracks layout map = (h k : ℕ) → 8 * k < length (base_of layout) → IsTrue (map.writes h k) → (IsTracked (tracked_of layout) k → ⊥) → ⊥

-- RAM, as a boot leaves it
abbrev pub boot_memory : Size → List ℕ → List ℕ
boot_memory size payload = payload ++ replicate (ram_bytes_of size - length payload) 0

-- The memory after an event is as it was, but for words that some hart may write by each map that the event keeps; or it is that of a boot.
abbrev pub LeavesMemory : List ℕ → Event → Sized → Sized → Type 0
LeavesMemory payload e old new =
    (map : Map) → Keeps map e old.board
    → SameOutside map old.machine.memory new.machine.memory ⊎ (new.machine.memory ≡ boot_memory old.machine.size payload)

-- for each word a number that is not 0 where some hart may write it, by the map
abbrev pub MasksOf : Map → List ℕ → Type 0
MasksOf map masks = (h k : ℕ) → k < length masks → IsTrue (map.writes h k) → slice_index masks k ≢ 0
