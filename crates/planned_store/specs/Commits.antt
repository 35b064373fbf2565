-- The calls of a commit, one after another. Source: docs/STORE.md, "A commit".
use Rattle.std.specs.Prelude.{◌≡◌, ◌+◌, ◌-◌, ℕ, List, Result, Ok, Err}
use Rattle.disk.specs.declared.device.Fault.{Fault}
use Rattle.layout.specs.Records.{record_of, gate_of}
use Rattle.layout.specs.declared.records.Record.{Record}
use Rattle.planned_store.specs.declared.commits.Commit.{Commit}
use Rattle.planned_store.specs.declared.commits.CommitStep.{CommitStep}
use Rattle.planned_store.specs.declared.commits.CommitStep.TheVariants.{WriteRecord, SyncRecord, WriteGate, SyncGate, Committed, Unchanged, InDoubt}
use Rattle.planned_store.specs.declared.commits.Selected.{Selected}
use Rattle.planned_store.specs.declared.plans.Request.{Request}
use Rattle.planned_store.specs.declared.plans.Request.TheVariants as requests

-- the answer to a call
abbrev pub Answer : Type 0
Answer = Result (Unit {0}) Fault

-- the call of a step, where the record on that side is selected
abbrev pub asked_at : ℕ → CommitStep → Request
asked_at side WriteRecord = requests.Write (2 + (1 - side))
asked_at side SyncRecord = requests.Sync
asked_at side WriteGate = requests.Write 1
asked_at side SyncGate = requests.Sync
asked_at side Committed = requests.Done
asked_at side Unchanged = requests.Done
asked_at side InDoubt = requests.Done

abbrev pub asked_in : Commit → Request
asked_in c = asked_at c.from.side c.step

-- the bytes that a step writes
abbrev pub PutsAt : ℕ → Record → CommitStep → List ℕ → Type 0
PutsAt side next WriteRecord bytes = bytes ≡ record_of next
PutsAt side next WriteGate bytes = bytes ≡ gate_of (1 - side)
PutsAt side next step bytes = Unit {0}

abbrev pub PutsIn : Commit → List ℕ → Type 0
PutsIn c bytes = PutsAt c.from.side c.next c.step bytes

-- the step after an answer
abbrev pub step_after : CommitStep → Answer → CommitStep
step_after WriteRecord (Ok v) = SyncRecord
step_after SyncRecord (Ok v) = WriteGate
step_after WriteGate (Ok v) = SyncGate
step_after SyncGate (Ok v) = Committed
step_after WriteRecord (Err e) = Unchanged
step_after SyncRecord (Err e) = Unchanged
step_after WriteGate (Err e) = InDoubt
step_after SyncGate (Err e) = InDoubt
step_after Committed answer = Committed
step_after Unchanged answer = Unchanged
step_after InDoubt answer = InDoubt

-- how many calls are left at most
abbrev pub left_at : CommitStep → ℕ
left_at WriteRecord = 4
left_at SyncRecord = 3
left_at WriteGate = 2
left_at SyncGate = 1
left_at Committed = 0
left_at Unchanged = 0
left_at InDoubt = 0

-- what is selected after it
abbrev pub made_by : Commit → Selected
made_by c = record { shape = c.from.shape; side = 1 - c.from.side; live = c.next }
