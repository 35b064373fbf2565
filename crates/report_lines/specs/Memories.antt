-- The memory of the image that stands on a disk, by its content alone. Source: docs/STORE.md, "What a disk stands for".
use Rattle.std.specs.Prelude.{◌≡◌, ℕ, List, [], Some, None}
use Rattle.board_model.specs.Durable.{DurableState, Image}
use Rattle.board_model.specs.Shapes.{Size}
use Rattle.board_model.specs.declared.refusal.Refusal.{Refusal}
use Rattle.board_model.specs.declared.refusal.Refusal.TheVariants.{NotFormatted, BadShape, BadRecord, Device, NoImage, BadImage, Memory}
use Rattle.disk.specs.Facts.{Content, Facts, Failed}
use Rattle.store.specs.Lives.{IsLoaded}
use Rattle.store.specs.Opens.{IsBoard, ReadsAs}
use Rattle.store.specs.Standing.{StandsFor}

-- a state stands on it whose image has this memory: what the image's area reads as
abbrev pub HoldsMemory : Content → List ℕ → Type 0
HoldsMemory c memory = (size : Size) × (s : DurableState) × StandsFor c size s × IsLoaded s memory

-- a state stands on it that has no image
abbrev pub HoldsNoImage : Content → Type 0
HoldsNoImage c = (size : Size) × (s : DurableState) × StandsFor c size s × (s.image ≡ None)

-- a state stands on it whose image reads as no memory
abbrev pub HoldsBadImage : Content → Type 0
HoldsBadImage c =
    (size : Size) × (s : DurableState) × StandsFor c size s
    × ((i : Image) × (s.image ≡ Some i) × (i.memory ≡ []))

-- 1, 3 and 4 by what the disk reads as, 8 without an image, 13 for one that reads as no memory, 5 where it failed
-- in this call, and 11 of the disk of a board
abbrev pub MemoryRefused : Facts → Refusal → Facts → Type 0
MemoryRefused disk NotFormatted new = ReadsAs disk.content NotFormatted
MemoryRefused disk BadShape new = ReadsAs disk.content BadShape
MemoryRefused disk BadRecord new = ReadsAs disk.content BadRecord
MemoryRefused disk NoImage new = HoldsNoImage disk.content
MemoryRefused disk BadImage new = HoldsBadImage disk.content
MemoryRefused disk Device new = Failed disk.failures new.failures
MemoryRefused disk Memory new = (size : Size) × IsBoard size disk.content
MemoryRefused disk e new = ⊥
