-- The gate, which selects one of two records, and the record, in two versions: the durable state, and where
-- its image stands. Source: docs/STORE.md, "Gate" and "Record".
use Rattle.std.specs.Prelude.{◌≡◌, ℕ, ◌%◌, ◌<◌, ◌≤◌, List, [], ◌∷◌, ◌++◌, Option, Some, None, length, sum, slice_index, nat_lt, if◌then◌else◌}
use Rattle.std.specs.Option.{ForSome}
use Rattle.board_model.specs.Shapes.{Size, IsValidAddress, places_of}
use Rattle.board_model.specs.Views.{reason_number}
use Rattle.board_model.specs.declared.durable.ImageHead.{ImageHead}
use Rattle.board_model.specs.declared.durable.Durable.{Durable}
use Rattle.board_model.specs.declared.durable.Trial.{Trial}
use Rattle.layout.specs.Fields.{Field, FitAll, fields_bytes, sector_of}
use Rattle.layout.specs.declared.saved.Saved.{Saved}
use Rattle.layout.specs.declared.records.Record.{Record}
use Rattle.layout.specs.declared.records.Version.{Version}
use Rattle.layout.specs.declared.records.Version.TheVariants.{One, Two}

-- which record the gate selects: the parity of its first byte
abbrev pub selected_by : List ℕ → ℕ
selected_by sector = slice_index sector 0 % 2

-- the gate that selects a record
abbrev pub gate_of : ℕ → List ℕ
gate_of side = sector_of (side ∷ [])

abbrev pub version_number : Version → ℕ
version_number One = 1
version_number Two = 2

-- bytes 24 to 72, where an image is present
abbrev pub saved_fields : Saved → List Field
saved_fields saved =
    (8, saved.head.serial) ∷ (4, saved.area) ∷ (4, saved.head.hart) ∷ (8, saved.head.address) ∷ (8, saved.head.opaque)
    ∷ (4, slice_index saved.counts 0) ∷ (4, slice_index saved.counts 1) ∷ (4, slice_index saved.counts 2)
    ∷ (4, slice_index saved.counts 3) ∷ []

-- and where there is none
abbrev pub no_saved_fields : List Field
no_saved_fields = (8, 0) ∷ (4, 0) ∷ (4, 0) ∷ (8, 0) ∷ (8, 0) ∷ (4, 0) ∷ (4, 0) ∷ (4, 0) ∷ (4, 0) ∷ []

abbrev pub image_fields : Option Saved → List Field
image_fields None = no_saved_fields
image_fields (Some saved) = saved_fields saved

-- 1 where an image is present
abbrev pub presence_of : Option Saved → ℕ
presence_of None = 0
presence_of (Some saved) = 1

-- bytes 72 to 84: whether a trial stands, its fallback and the boots left; zeros without one
abbrev pub trial_fields : Option Trial → List Field
trial_fields None = (4, 0) ∷ (4, 0) ∷ (4, 0) ∷ []
trial_fields (Some trial) = (4, 1) ∷ (4, trial.fallback) ∷ (4, trial.left) ∷ []

-- bytes 0 to 24
abbrev pub head_fields : Record → List Field
head_fields r =
    (4, version_number r.version) ∷ (4, r.slot) ∷ (4, reason_number r.reason) ∷ (4, presence_of r.image)
    ∷ (8, r.next) ∷ []

abbrev pub record_of : Record → List ℕ
record_of r = sector_of (fields_bytes (head_fields r ++ (image_fields r.image ++ trial_fields r.trial)))

-- so many places can hold pages in a lane: none where the board lacks it
abbrev pub most_places : Size → ℕ → ℕ
most_places size lane = if nat_lt lane size.lanes then places_of size else 0

-- the counts of pages by lane are those of one memory
pub record AreCounts (size : Size) (counts : List ℕ) : Type 0 where
  pub four : length counts ≡ 4
  pub each : (lane : ℕ) → lane < 4 → slice_index counts lane ≤ most_places size lane
  pub all : sum counts ≡ size.pages

-- what is kept of an image fits the board and the serials given out
pub record IsSaved (size : Size) (next : ℕ) (saved : Saved) : Type 0 where
  pub serial : saved.head.serial < next
  pub area : saved.area < 2
  pub hart : saved.head.hart < size.harts
  pub address : IsValidAddress size saved.head.address
  pub counts : AreCounts size saved.counts
  pub fit : FitAll (saved_fields saved)

abbrev pub AreSaved : Size → ℕ → Option Saved → Type 0
AreSaved size next image = ForSome image (λ saved. IsSaved size next saved)

-- a trial stands in version 2 alone, and is one that a command may begin or leave
abbrev pub IsTrialIn : Version → Option Trial → Type 0
IsTrialIn version trial = ForSome trial (λ t. (version ≡ Two) × (t.fallback ≤ 3) × (t.left ≤ 7))

-- each field of the record is in its range
pub record IsInRange (size : Size) (r : Record) : Type 0 where
  pub slot : r.slot ≤ 3
  pub image : AreSaved size r.next r.image
  pub trial : IsTrialIn r.version r.trial
  pub fit : FitAll (head_fields r)

-- the sector is the one spelling of the record, on a board of this size
abbrev pub IsRecord : Size → Record → List ℕ → Type 0
IsRecord size r sector = IsInRange size r × (sector ≡ record_of r)

abbrev pub head_in : Option Saved → Option ImageHead
head_in None = None
head_in (Some saved) = Some saved.head

-- the durable state that the record has, without the image's memory
abbrev pub durable_in : Record → Durable
durable_in r =
    record { image = head_in r.image; slot = r.slot; reason = r.reason; next = r.next; trial = r.trial }
