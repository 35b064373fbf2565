-- How the numbers and bytes that C keeps are a plan.
use Rattle.std.specs.Prelude.{◌≡◌, ◌<◌, ℕ}
use Rattle.board_model.specs.Shapes.{Size, IsSize}
use Rattle.layout.specs.Records.{record_of, IsInRange}
use Rattle.planned_store.specs.declared.commits.Commit.{Commit}
use Rattle.planned_store.specs.declared.commits.CommitStep.{CommitStep}
use Rattle.planned_store.specs.declared.commits.CommitStep.TheVariants.{WriteRecord, SyncRecord, WriteGate, SyncGate}
use Rattle.planned_store.specs.declared.commits.Selected.{Selected}
use Rattle.planned_store.specs.declared.formats.FormatStep.{FormatStep}
use Rattle.planned_store.specs.declared.formats.FormatStep.TheVariants as formats
use Rattle.planned_store.specs.declared.plans.Plan.{Plan}
use Rattle.planned_store.specs.declared.plans.Plan.TheVariants.{Settling, ReadingSuperblock, ReadingGate, ReadingRecord, Found, Renewing, Committing, Formatting}
use Rattle.sbistore.specs.declared.state.Sbistore.{Sbistore}

-- the number of a step, and one past them all where a commit or a format has ended
abbrev pub step_number : CommitStep → ℕ
step_number WriteRecord = 0
step_number SyncRecord = 1
step_number WriteGate = 2
step_number SyncGate = 3
step_number step = 4

abbrev pub format_number : FormatStep → ℕ
format_number formats.ReadSuperblock = 0
format_number formats.WriteRecord = 1
format_number formats.WriteGate = 2
format_number formats.SyncGate = 3
format_number formats.WriteSuperblock = 4
format_number formats.SyncSuperblock = 5
format_number step = 6

pub record HasShape (size : Size) (store : Sbistore) : Type 0 where
  pub valid : IsSize size
  pub harts : store.harts ≡ size.harts
  pub pages : store.pages ≡ size.pages
  pub lanes : store.lanes ≡ size.lanes

pub record HasSelected (found : Selected) (store : Sbistore) : Type 0 where
  pub shape : HasShape found.shape store
  pub side : store.side ≡ found.side
  pub known : found.side < 2
  pub live : store.live ≡ record_of found.live
  pub range : IsInRange found.shape found.live

pub record HasCommit (c : Commit) (store : Sbistore) : Type 0 where
  pub from : HasSelected c.from store
  pub next : store.next ≡ record_of c.next
  pub range : IsInRange c.from.shape c.next
  pub step : store.step ≡ step_number c.step
  pub going : store.step < 4

-- the plan that is under way
abbrev pub IsPacked : Plan → Sbistore → Type 0
IsPacked (Settling n) store = (store.phase ≡ 1) × (store.sectors ≡ n)
IsPacked (ReadingSuperblock n) store = (store.phase ≡ 2) × (store.sectors ≡ n)
IsPacked (ReadingGate size) store = (store.phase ≡ 3) × HasShape size store
IsPacked (ReadingRecord size side) store =
    (store.phase ≡ 4) × HasShape size store × (store.side ≡ side) × (side < 2)
IsPacked (Renewing c) store = (store.phase ≡ 5) × HasCommit c store
IsPacked (Committing c) store = (store.phase ≡ 6) × HasCommit c store
IsPacked (Formatting f) store =
    (store.phase ≡ 7) × HasShape f.shape store × (store.step ≡ format_number f.step) × (store.step < 6)
IsPacked plan store = ⊥

-- ---- what a plan makes of the numbers and bytes that keep it
abbrev pub with_shape : Size → Sbistore → Sbistore
with_shape size store = record store { harts = size.harts; pages = size.pages; lanes = size.lanes }

abbrev pub with_selected : Selected → Sbistore → Sbistore
with_selected found store =
    record (with_shape found.shape store) { side = found.side; live = record_of found.live }

abbrev pub with_commit : Commit → Sbistore → Sbistore
with_commit c store =
    record (with_selected c.from store) { next = record_of c.next; step = step_number c.step }

abbrev pub packed_by : Plan → Sbistore → Sbistore
packed_by (Settling n) store = record store { sectors = n; phase = 1 }
packed_by (ReadingSuperblock n) store = record store { sectors = n; phase = 2 }
packed_by (ReadingGate size) store = record (with_shape size store) { phase = 3 }
packed_by (ReadingRecord size side) store = record (with_shape size store) { side = side; phase = 4 }
packed_by (Renewing c) store = record (with_commit c store) { phase = 5 }
packed_by (Committing c) store = record (with_commit c store) { phase = 6 }
packed_by (Formatting f) store = record (with_shape f.shape store) { step = format_number f.step; phase = 7 }
packed_by plan store = record store { phase = 0 }

-- each number and record of a plan is in its range
abbrev pub IsSelectedSound : Selected → Type 0
IsSelectedSound found = IsSize found.shape × (found.side < 2) × IsInRange found.shape found.live

abbrev pub IsSound : Plan → Type 0
IsSound (ReadingGate size) = IsSize size
IsSound (ReadingRecord size side) = IsSize size × (side < 2)
IsSound (Found found) = IsSelectedSound found
IsSound (Renewing c) = IsSelectedSound c.from × IsInRange c.from.shape c.next
IsSound (Committing c) = IsSelectedSound c.from × IsInRange c.from.shape c.next
IsSound (Formatting f) = IsSize f.shape
IsSound plan = Unit {0}
