-- The calls of a plan, one after another. Source: docs/STORE.md, "The calls of the disk".
use Rattle.std.specs.Prelude.{◌≡◌, ◌⊎◌, ◌+◌, ◌≤◌, ◌<◌, ℕ, List, Ok, Err}
use Rattle.board_model.specs.Shapes.{Size, sectors_of}
use Rattle.board_model.specs.declared.refusal.Refusal.TheVariants.{NotFormatted, BadShape, BadRecord, Device}
use Rattle.layout.specs.Records.{selected_by, IsRecord, gate_of, record_of}
use Rattle.layout.specs.Superblocks.{HasMagic, IsSuperblock}
use Rattle.layout.specs.declared.records.Record.{Record}
use Rattle.layout.specs.declared.records.Version.TheVariants.{One, Two}
use Rattle.store.specs.Formats.{formatted_record}
use Rattle.store.specs.Opens.{renewed_record}
use Rattle.planned_store.specs.Commits.{Answer, asked_in, PutsIn, step_after, left_at}
use Rattle.planned_store.specs.declared.commits.CommitStep.TheVariants.{WriteRecord}
use Rattle.planned_store.specs.declared.commits.Selected.{Selected}
use Rattle.planned_store.specs.declared.formats.Formatting.{Formatting as Format}
use Rattle.planned_store.specs.declared.formats.FormatStep.{FormatStep}
use Rattle.planned_store.specs.declared.formats.FormatStep.TheVariants as formats
use Rattle.planned_store.specs.declared.plans.Plan.{Plan}
use Rattle.planned_store.specs.declared.plans.Plan.TheVariants.{Settling, ReadingSuperblock, ReadingGate, ReadingRecord, Found, Renewing, Committing, Formatting, Refused}
use Rattle.planned_store.specs.declared.plans.Request.{Request}
use Rattle.planned_store.specs.declared.plans.Request.TheVariants.{Read, Write, Sync, Done}

-- ---- a format
abbrev pub format_asks : FormatStep → Request
format_asks formats.ReadSuperblock = Read 0
format_asks formats.WriteRecord = Write 2
format_asks formats.WriteGate = Write 1
format_asks formats.SyncGate = Sync
format_asks formats.WriteSuperblock = Write 0
format_asks formats.SyncSuperblock = Sync
format_asks formats.Formatted = Done
format_asks formats.TooSmall = Done
format_asks formats.Marked = Done
format_asks formats.Failed = Done

abbrev pub FormatPuts : Size → FormatStep → List ℕ → Type 0
FormatPuts size formats.WriteRecord bytes = bytes ≡ record_of formatted_record
FormatPuts size formats.WriteGate bytes = bytes ≡ gate_of 0
FormatPuts size formats.WriteSuperblock bytes = IsSuperblock size bytes
FormatPuts size step bytes = Unit {0}

-- the mark is looked for in sector 0, as it was read
abbrev pub SuperblockStep : List ℕ → FormatStep → Type 0
SuperblockStep bytes formats.Marked = HasMagic bytes
SuperblockStep bytes formats.WriteRecord = HasMagic bytes → ⊥
SuperblockStep bytes step = ⊥

abbrev pub FormatGoes : FormatStep → Answer → List ℕ → FormatStep → Type 0
FormatGoes formats.ReadSuperblock (Ok v) bytes step = SuperblockStep bytes step
FormatGoes formats.WriteRecord (Ok v) bytes step = step ≡ formats.WriteGate
FormatGoes formats.WriteGate (Ok v) bytes step = step ≡ formats.SyncGate
FormatGoes formats.SyncGate (Ok v) bytes step = step ≡ formats.WriteSuperblock
FormatGoes formats.WriteSuperblock (Ok v) bytes step = step ≡ formats.SyncSuperblock
FormatGoes formats.SyncSuperblock (Ok v) bytes step = step ≡ formats.Formatted
FormatGoes formats.ReadSuperblock (Err e) bytes step = step ≡ formats.Failed
FormatGoes formats.WriteRecord (Err e) bytes step = step ≡ formats.Failed
FormatGoes formats.WriteGate (Err e) bytes step = step ≡ formats.Failed
FormatGoes formats.SyncGate (Err e) bytes step = step ≡ formats.Failed
FormatGoes formats.WriteSuperblock (Err e) bytes step = step ≡ formats.Failed
FormatGoes formats.SyncSuperblock (Err e) bytes step = step ≡ formats.Failed
FormatGoes ended answer bytes step = Unit {0}

abbrev pub format_left : FormatStep → ℕ
format_left formats.ReadSuperblock = 6
format_left formats.WriteRecord = 5
format_left formats.WriteGate = 4
format_left formats.SyncGate = 3
format_left formats.WriteSuperblock = 2
format_left formats.SyncSuperblock = 1
format_left formats.Formatted = 0
format_left formats.TooSmall = 0
format_left formats.Marked = 0
format_left formats.Failed = 0

-- one of a disk of so many sectors begins so
abbrev pub FormatBegins : ℕ → Size → Format → Type 0
FormatBegins n size f =
    ((n < sectors_of size) × (f ≡ record { shape = size; step = formats.TooSmall }))
    ⊎ ((sectors_of size ≤ n) × (f ≡ record { shape = size; step = formats.ReadSuperblock }))

-- ---- the call of a plan, and the bytes that it writes
abbrev pub asked : Plan → Request
asked (Settling n) = Sync
asked (ReadingSuperblock n) = Read 0
asked (ReadingGate size) = Read 1
asked (ReadingRecord size side) = Read (2 + side)
asked (Found found) = Done
asked (Renewing c) = asked_in c
asked (Committing c) = asked_in c
asked (Formatting f) = format_asks f.step
asked (Refused e) = Done

abbrev pub Puts : Plan → List ℕ → Type 0
Puts (Settling n) bytes = Unit {0}
Puts (ReadingSuperblock n) bytes = Unit {0}
Puts (ReadingGate size) bytes = Unit {0}
Puts (ReadingRecord size side) bytes = Unit {0}
Puts (Found found) bytes = Unit {0}
Puts (Renewing c) bytes = PutsIn c bytes
Puts (Committing c) bytes = PutsIn c bytes
Puts (Formatting f) bytes = FormatPuts f.shape f.step bytes
Puts (Refused e) bytes = Unit {0}

-- ---- how a plan of a disk of so many sectors begins
abbrev pub BeginsOpen : ℕ → Plan → Type 0
BeginsOpen n plan = ((n ≡ 0) × (plan ≡ Refused BadShape)) ⊎ ((0 < n) × (plan ≡ Settling n))

abbrev pub BeginsFormat : ℕ → Size → Plan → Type 0
BeginsFormat n size plan = (f : Format) × FormatBegins n size f × (plan ≡ Formatting f)

-- ---- what was read
abbrev pub ReadsSuperblock : ℕ → List ℕ → Plan → Type 0
ReadsSuperblock n bytes (ReadingGate size) = IsSuperblock size bytes × (sectors_of size ≤ n)
ReadsSuperblock n bytes (Refused NotFormatted) = HasMagic bytes → ⊥
ReadsSuperblock n bytes (Refused BadShape) =
    HasMagic bytes × ((size : Size) → IsSuperblock size bytes → sectors_of size ≤ n → ⊥)
ReadsSuperblock n bytes plan = ⊥

-- the record is found, or written anew
abbrev pub ReadsRecord : Size → ℕ → List ℕ → Plan → Type 0
ReadsRecord size side bytes (Found found) =
    (found.shape ≡ size) × (found.side ≡ side) × IsRecord size found.live bytes × (found.live.version ≡ Two)
ReadsRecord size side bytes (Renewing c) =
    (c.from.shape ≡ size) × (c.from.side ≡ side) × IsRecord size c.from.live bytes × (c.from.live.version ≡ One)
    × (c.next ≡ renewed_record c.from.live) × (c.step ≡ WriteRecord)
ReadsRecord size side bytes (Refused BadRecord) = (r : Record) → IsRecord size r bytes → ⊥
ReadsRecord size side bytes plan = ⊥

-- ---- the plan after an answer, and after a read with these bytes
abbrev pub Goes : Plan → Answer → List ℕ → Plan → Type 0
Goes (Settling n) (Ok v) bytes plan = plan ≡ ReadingSuperblock n
Goes (Settling n) (Err e) bytes plan = plan ≡ Refused Device
Goes (ReadingSuperblock n) (Ok v) bytes plan = ReadsSuperblock n bytes plan
Goes (ReadingSuperblock n) (Err e) bytes plan = plan ≡ Refused Device
Goes (ReadingGate size) (Ok v) bytes plan = plan ≡ ReadingRecord size (selected_by bytes)
Goes (ReadingGate size) (Err e) bytes plan = plan ≡ Refused Device
Goes (ReadingRecord size side) (Ok v) bytes plan = ReadsRecord size side bytes plan
Goes (ReadingRecord size side) (Err e) bytes plan = plan ≡ Refused Device
Goes (Renewing c) answer bytes plan = plan ≡ Renewing (record c { step = step_after c.step answer })
Goes (Committing c) answer bytes plan = plan ≡ Committing (record c { step = step_after c.step answer })
Goes (Formatting f) answer bytes plan =
    (step : FormatStep) × FormatGoes f.step answer bytes step × (plan ≡ Formatting (record f { step = step }))
Goes (Found found) answer bytes plan = Unit {0}
Goes (Refused e) answer bytes plan = Unit {0}

-- how many calls are left at most
abbrev pub calls_left : Plan → ℕ
calls_left (Settling n) = 8
calls_left (ReadingSuperblock n) = 7
calls_left (ReadingGate size) = 6
calls_left (ReadingRecord size side) = 5
calls_left (Found found) = 0
calls_left (Renewing c) = left_at c.step
calls_left (Committing c) = left_at c.step
calls_left (Formatting f) = format_left f.step
calls_left (Refused e) = 0

-- what a plan is of: an open, a commit of that record, or a format
pub data Task : Type 0 where
  Opens : Task
  Commits : Selected → Record → Task
  Formats : Size → Task

abbrev pub task_of : Plan → Task
task_of (Settling n) = Opens
task_of (ReadingSuperblock n) = Opens
task_of (ReadingGate size) = Opens
task_of (ReadingRecord size side) = Opens
task_of (Found found) = Opens
task_of (Renewing c) = Opens
task_of (Committing c) = Commits c.from c.next
task_of (Formatting f) = Formats f.shape
task_of (Refused e) = Opens
