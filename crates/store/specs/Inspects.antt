-- What an examiner says of a disk, by its content alone.
-- Source: docs/STORE.md, "Examining".
use Rattle.std.specs.Prelude.{◌≡◌, ◌≢◌, ◌↔◌, ◌≤◌, ◌<◌, ◌+◌, ℕ, ◌*◌, IsTrue, List, [], Some, Result, Ok, Err}
use Rattle.board_model.specs.Shapes.{Size}
use Rattle.board_model.specs.declared.refusal.Refusal.{Refusal}
use Rattle.board_model.specs.declared.refusal.Refusal.TheVariants.{NotFormatted, BadShape, BadImage, Device, Memory}
use Rattle.disk.specs.Facts.{Content, Facts, Failed, counted}
use Rattle.layout.specs.Records.{IsRecord}
use Rattle.layout.specs.declared.records.Record.{Record}
use Rattle.layout.specs.declared.saved.Saved.{Saved}
use Rattle.store.specs.Opens.{IsBoard, ReadsAs}
use Rattle.store.specs.Standing.{selected, saved_memory, live_sector, other_sector}
use Rattle.store.specs.declared.inspects.ImageSeen.{ImageSeen}
use Rattle.store.specs.declared.inspects.ImageSeen.TheVariants.{Absent, Whole, Bad}
use Rattle.store.specs.declared.inspects.Inspection.{Inspection}

-- the sector is a record of that board
abbrev pub HasRecord : Size → List ℕ → Type 0
HasRecord size bytes = (r : Record) × IsRecord size r bytes

-- the selected record is in its form, and keeps an image
abbrev pub KeepsImage : Size → Content → Saved → Type 0
KeepsImage size c saved = (r : Record) × IsRecord size r (live_sector c) × (r.image ≡ Some saved)

-- What is said of the image. It is whole exactly where its area reads as a memory, and not as none: where
-- `read_area` answers Ok.
abbrev pub IsImageSeen : Size → Content → ImageSeen → Type 0
IsImageSeen size c Absent = (saved : Saved) → KeepsImage size c saved → ⊥
IsImageSeen size c Whole = (saved : Saved) × KeepsImage size c saved × (saved_memory size saved c ≢ [])
IsImageSeen size c Bad = (saved : Saved) × KeepsImage size c saved × (saved_memory size saved c ≡ [])

-- what a read of the image's area tells of it
abbrev pub seen_by : Result (Unit {0}) Refusal → Result ImageSeen Refusal
seen_by (Ok read) = Ok Whole
seen_by (Err BadImage) = Ok Bad
seen_by (Err e) = Err e

-- what is said of the disk of a board of that size
pub record IsInspected (size : Size) (c : Content) (i : Inspection) : Type 0 where
  pub gate : i.gate ≡ selected c
  pub live : IsTrue i.live ↔ HasRecord size (live_sector c)
  pub other : IsTrue i.other ↔ HasRecord size (other_sector c)
  pub image : IsImageSeen size c i.image

-- 1 and 3 by what the disk reads as, as an open is refused, 5 where it failed in this call, and 11 where an
-- image was to be read
abbrev pub InspectRefused : Facts → Refusal → Facts → Type 0
InspectRefused disk NotFormatted new = ReadsAs disk.content NotFormatted
InspectRefused disk BadShape new = ReadsAs disk.content BadShape
InspectRefused disk Device new = Failed disk.failures new.failures
InspectRefused disk Memory new =
    (size : Size) × IsBoard size disk.content × ((saved : Saved) × KeepsImage size disk.content saved)
InspectRefused disk e new = ⊥

-- How many calls of the disk were made for the image: none where none is read, two a page where it is whole,
-- where it is not those up to the header of the place that shows it, and for 5 up to the one that failed.
abbrev pub SeenCalls : Size → Result ImageSeen Refusal → ℕ → ℕ → Type 0
SeenCalls size (Ok Absent) old new = new ≡ old
SeenCalls size (Ok Whole) old new = new ≡ counted old (2 * size.pages)
SeenCalls size (Ok Bad) old new = (k : ℕ) × (k < size.pages) × (new ≡ counted old (2 * k + 1))
SeenCalls size (Err Memory) old new = new ≡ old
SeenCalls size (Err e) old new = (counted old 1 ≤ new) × (new ≤ counted old (2 * size.pages))

-- and with those of gate and records before it
abbrev pub ExaminedCalls : Size → Result Inspection Refusal → ℕ → ℕ → Type 0
ExaminedCalls size (Ok i) old new = SeenCalls size (Ok i.image) (counted old 3) new
ExaminedCalls size (Err Memory) old new = new ≡ counted old 3
ExaminedCalls size (Err e) old new = (counted old 1 ≤ new) × (new ≤ counted old (3 + 2 * size.pages))

-- 5 comes at sector 0 alone of a disk that is no board's, and else at the image's last page at the latest
pub record FailedCalls (c : Content) (old new : ℕ) : Type 0 where
  pub some : counted old 1 ≤ new
  pub few : (size : Size) → IsBoard size c → new ≤ counted old (4 + 2 * size.pages)
  pub first : ((size : Size) → IsBoard size c → ⊥) → new ≡ counted old 1

-- And by an inspection of a disk that has sectors: that of sector 0 for 1 and 3; those of gate and records too
-- where no image is read; those for the image where one is; and for 5 up to the one that failed.
abbrev pub InspectCalls : Content → Result Inspection Refusal → ℕ → ℕ → Type 0
InspectCalls c (Ok i) old new = (size : Size) → IsBoard size c → SeenCalls size (Ok i.image) (counted old 4) new
InspectCalls c (Err NotFormatted) old new = new ≡ counted old 1
InspectCalls c (Err BadShape) old new = new ≡ counted old 1
InspectCalls c (Err Memory) old new = new ≡ counted old 4
InspectCalls c (Err e) old new = FailedCalls c old new
