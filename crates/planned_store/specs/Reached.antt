-- What the calls up to a plan have made of a disk, whose facts are f and fault states m: of that at the start and
-- that now.
use Rattle.std.specs.Prelude.{◌≡◌, ◌⊎◌, ◌+◌, ◌-◌, ◌≤◌, ◌<◌, ℕ, [], ◌∷◌, Result, Ok, Err, length}
use Rattle.board_model.specs.Shapes.{Size, sectors_of}
use Rattle.board_model.specs.declared.refusal.Refusal.{Refusal}
use Rattle.board_model.specs.declared.refusal.Refusal.TheVariants.{NotFormatted, BadShape, BadRecord, Device}
use Rattle.disk.specs.Calls.{MakesCalls}
use Rattle.disk.specs.Facts.{Facts, Content, sector, Torn, Written, Stays, Only}
use Rattle.disk.specs.FaultState.{FaultState}
use Rattle.layout.specs.Records.{record_of, gate_of}
use Rattle.layout.specs.declared.records.Record.{Record}
use Rattle.layout.specs.declared.records.Version.TheVariants.{One, Two}
use Rattle.layout.specs.Superblocks.{IsSuperblock}
use Rattle.store.specs.Formats.{formatted_record, HeadInOrder}
use Rattle.store.specs.Leaves.{IsMarked}
use Rattle.store.specs.Opens.{IsBoard, ReadsAs, renewed_record}
use Rattle.store.specs.Standing.{selected, Selects}
use Rattle.planned_store.specs.declared.commits.CommitStep.{CommitStep}
use Rattle.planned_store.specs.declared.commits.CommitStep.TheVariants.{WriteRecord, SyncRecord, WriteGate, SyncGate, Committed, Unchanged, InDoubt}
use Rattle.planned_store.specs.declared.commits.Selected.{Selected}
use Rattle.planned_store.specs.declared.formats.FormatStep.{FormatStep}
use Rattle.planned_store.specs.declared.formats.FormatStep.TheVariants as formats
use Rattle.planned_store.specs.declared.plans.Plan.{Plan}
use Rattle.planned_store.specs.declared.plans.Plan.TheVariants.{Settling, ReadingSuperblock, ReadingGate, ReadingRecord, Found, Renewing, Committing, Formatting, Refused}

-- so many calls were made that answered Ok, or the last of them failed
abbrev pub Ended : Type 0
Ended = Result (Unit {0}) (Unit {0})

-- new is old but for the gate and record 0
abbrev pub Behind : Content → Content → Type 0
Behind old new = Torn 1 2 old new

module _ {D : Type 0} (f : D → Facts) (m : D → FaultState) where
  abbrev pub Made : ℕ → (Content → Content → Type 0) → D → D → Ended → Type 0
  Made n step a b ended = MakesCalls n step (f a) (f b) (m a) (m b) ended

  -- ---- a commit of that record into the side that is not selected
  -- the record stands there, durable
  pub record Recorded (side : ℕ) (next : Record) (a b : D) : Type 0 where
    pub written : Written (2 + (1 - side)) (record_of next ∷ []) (f a).content (f b).content
    pub only : Only (f b).content (f b).may_leave
    pub called : Made 2 (Torn (2 + (1 - side)) 1) a b (Ok tt)

  -- the gate selects it, durable
  pub record Gated (side : ℕ) (a b : D) : Type 0 where
    pub written : Written 1 (gate_of side ∷ []) (f a).content (f b).content
    pub only : Only (f b).content (f b).may_leave
    pub called : Made 2 (Torn 1 1) a b (Ok tt)

  abbrev pub CommitAt : ℕ → Record → CommitStep → D → D → Type 0
  CommitAt side next WriteRecord a b = b ≡ a
  CommitAt side next SyncRecord a b =
      Written (2 + (1 - side)) (record_of next ∷ []) (f a).content (f b).content
      × Made 1 (Torn (2 + (1 - side)) 1) a b (Ok tt)
  CommitAt side next WriteGate a b = Recorded side next a b
  CommitAt side next SyncGate a b =
      (d : D) × Recorded side next a d × Written 1 (gate_of (1 - side) ∷ []) (f d).content (f b).content
      × Made 1 (Torn 1 1) d b (Ok tt)
  CommitAt side next Committed a b = (d : D) × Recorded side next a d × Gated (1 - side) d b
  CommitAt side next Unchanged a b = Made 2 (Torn (2 + (1 - side)) 1) a b (Err tt)
  CommitAt side next InDoubt a b = (d : D) × Recorded side next a d × Made 2 (Torn 1 1) d b (Err tt)

  -- ---- an open: what was read, after the sync
  pub record ReadSo (n : ℕ) (a b : D) : Type 0 where
    pub only : Only (f b).content (f b).may_leave
    pub called : Made n Stays a b (Ok tt)

  pub record FoundAt (found : Selected) (a b : D) : Type 0 where
    pub read : ReadSo 4 a b
    pub selects : Selects found.shape found.side found.live (f a).content
    pub known : found.side < 2

  abbrev pub RefusedAt : Refusal → D → D → Type 0
  RefusedAt NotFormatted a b = ReadSo 2 a b × ReadsAs (f a).content NotFormatted
  RefusedAt BadShape a b =
      ((b ≡ a) × (length (f a).content ≡ 0)) ⊎ (ReadSo 2 a b × (0 < length (f a).content) × ReadsAs (f a).content BadShape)
  RefusedAt BadRecord a b = ReadSo 4 a b × ReadsAs (f a).content BadRecord
  RefusedAt Device a b = Made 4 Stays a b (Err tt) × (0 < length (f a).content)
  RefusedAt e a b = ⊥

  -- ---- a format: record 0 and the gate, then the superblock
  pub record Unmarked (size : Size) (a : D) : Type 0 where
    pub enough : sectors_of size ≤ length (f a).content
    pub mark : IsMarked (f a).content → ⊥

  pub record HasHead (b : D) : Type 0 where
    pub gate : sector (f b).content 1 ≡ gate_of 0
    pub first : sector (f b).content 2 ≡ record_of formatted_record

  abbrev pub FormatAt : Size → FormatStep → D → D → Type 0
  FormatAt size formats.ReadSuperblock a b = (b ≡ a) × (sectors_of size ≤ length (f a).content)
  FormatAt size formats.WriteRecord a b = Unmarked size a × Made 1 Stays a b (Ok tt)
  FormatAt size formats.WriteGate a b =
      Unmarked size a × Made 2 Behind a b (Ok tt) × (sector (f b).content 2 ≡ record_of formatted_record)
  FormatAt size formats.SyncGate a b = Unmarked size a × Made 3 Behind a b (Ok tt) × HasHead b
  FormatAt size formats.WriteSuperblock a b =
      Unmarked size a × Made 4 Behind a b (Ok tt) × HasHead b × Only (f b).content (f b).may_leave
  FormatAt size formats.SyncSuperblock a b =
      Unmarked size a × Made 5 HeadInOrder a b (Ok tt) × HasHead b × IsSuperblock size (sector (f b).content 0)
  FormatAt size formats.Formatted a b =
      Unmarked size a × Made 6 HeadInOrder a b (Ok tt) × HasHead b × IsSuperblock size (sector (f b).content 0)
      × Only (f b).content (f b).may_leave
  FormatAt size formats.TooSmall a b = (b ≡ a) × (length (f a).content < sectors_of size)
  FormatAt size formats.Marked a b =
      (sectors_of size ≤ length (f a).content) × Made 1 Stays a b (Ok tt) × IsMarked (f a).content
  FormatAt size formats.Failed a b =
      ((sectors_of size ≤ length (f a).content) × Made 1 Stays a b (Err tt))
      ⊎ (Unmarked size a × Made 6 HeadInOrder a b (Err tt))

  abbrev pub Reached : Plan → D → D → Type 0
  Reached (Settling n) a b = (b ≡ a) × (n ≡ length (f a).content) × (0 < n)
  Reached (ReadingSuperblock n) a b = ReadSo 1 a b × (n ≡ length (f a).content) × (0 < n)
  Reached (ReadingGate size) a b = ReadSo 2 a b × IsBoard size (f a).content
  Reached (ReadingRecord size side) a b =
      ReadSo 3 a b × IsBoard size (f a).content × (side ≡ selected (f a).content)
  Reached (Found found) a b = FoundAt found a b × (found.live.version ≡ Two)
  Reached (Renewing c) a b =
      (d : D) × FoundAt c.from a d × (c.from.live.version ≡ One) × (c.next ≡ renewed_record c.from.live)
      × CommitAt c.from.side c.next c.step d b
  Reached (Committing c) a b = (c.from.side < 2) × (4 ≤ length (f a).content) × CommitAt c.from.side c.next c.step a b
  Reached (Formatting k) a b = FormatAt k.shape k.step a b
  Reached (Refused e) a b = RefusedAt e a b
