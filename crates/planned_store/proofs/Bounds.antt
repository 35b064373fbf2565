-- Each call of a plan leaves fewer to come, and the plan stays one of the same task.
use Rattle.std.proofs.Common.{◌≡◌, ◌<◌, ℕ, List, Ok, Err, refl, sym, ap, subst, arith}
use Rattle.board_model.specs.{Shapes.Size, declared.refusal.Refusal.TheVariants.Device}
use Rattle.planned_store.specs.{Commits.{Answer, asked_at, step_after, left_at}, declared.{commits.CommitStep.CommitStep, plans.Plan.Plan}}
use Rattle.planned_store.specs.Plans.{asked, Goes, ReadsSuperblock, ReadsRecord, FormatGoes, SuperblockStep, format_asks, format_left, calls_left, Opens, task_of}
use Rattle.planned_store.specs.declared.commits.CommitStep.TheVariants.{WriteRecord, SyncRecord, WriteGate, SyncGate, Committed, Unchanged, InDoubt}
use Rattle.planned_store.specs.declared.{formats.FormatStep.FormatStep, plans.Request.TheVariants.Done}
use Rattle.planned_store.specs.declared.plans.Plan.TheVariants.{Settling, ReadingSuperblock, ReadingGate, ReadingRecord, Found, Renewing, Committing, Formatting, Refused}
use Rattle.planned_store.specs.declared.formats.FormatStep.TheVariants as formats

-- ---- fewer calls are left
commit_fewer : (side : ℕ) (step : CommitStep) (r : Answer) → (asked_at side step ≡ Done → ⊥) → left_at (step_after step r) < left_at step
commit_fewer side WriteRecord (Ok v) more = omega arith
commit_fewer side WriteRecord (Err e) more = omega arith
commit_fewer side SyncRecord (Ok v) more = omega arith
commit_fewer side SyncRecord (Err e) more = omega arith
commit_fewer side WriteGate (Ok v) more = omega arith
commit_fewer side WriteGate (Err e) more = omega arith
commit_fewer side SyncGate (Ok v) more = omega arith
commit_fewer side SyncGate (Err e) more = omega arith
commit_fewer side Committed r more = absurd (more refl)
commit_fewer side Unchanged r more = absurd (more refl)
commit_fewer side InDoubt r more = absurd (more refl)

by : (k : ℕ) (p q : Plan) → q ≡ p → calls_left p < k → calls_left q < k
by k p q is few = subst (λ (x : Plan). calls_left x < k) (sym is) few

read_superblock : (n : ℕ) (got : List ℕ) (q : Plan) → ReadsSuperblock n got q → calls_left q < 7
read_superblock n got (ReadingGate size) went = omega arith
read_superblock n got (Refused e) went = omega arith
read_superblock n got q went = absurd went

read_record : (size : Size) (side : ℕ) (got : List ℕ) (q : Plan) → ReadsRecord size side got q → calls_left q < 5
read_record size side got (Found found) went = omega arith
read_record size side got (Renewing k) went = subst (λ (step : CommitStep). left_at step < 5) (sym went.5) (omega arith)
read_record size side got (Refused e) went = omega arith
read_record size side got q went = absurd went

step_by : (k : ℕ) (s t : FormatStep) → t ≡ s → format_left s < k → format_left t < k
step_by k s t is few = subst (λ (x : FormatStep). format_left x < k) (sym is) few

marked_or_not : (got : List ℕ) (t : FormatStep) → SuperblockStep got t → format_left t < 6
marked_or_not got formats.Marked went = omega arith
marked_or_not got formats.WriteRecord went = omega arith
marked_or_not got t went = absurd went

format_fewer : (s t : FormatStep) (r : Answer) (got : List ℕ) → (format_asks s ≡ Done → ⊥) → FormatGoes s r got t → format_left t < format_left s
format_fewer formats.ReadSuperblock t (Ok v) got more went = marked_or_not got t went
format_fewer formats.ReadSuperblock t (Err e) got more went = step_by 6 formats.Failed t went (omega arith)
format_fewer formats.WriteRecord t (Ok v) got more went = step_by 5 formats.WriteGate t went (omega arith)
format_fewer formats.WriteRecord t (Err e) got more went = step_by 5 formats.Failed t went (omega arith)
format_fewer formats.WriteGate t (Ok v) got more went = step_by 4 formats.SyncGate t went (omega arith)
format_fewer formats.WriteGate t (Err e) got more went = step_by 4 formats.Failed t went (omega arith)
format_fewer formats.SyncGate t (Ok v) got more went = step_by 3 formats.WriteSuperblock t went (omega arith)
format_fewer formats.SyncGate t (Err e) got more went = step_by 3 formats.Failed t went (omega arith)
format_fewer formats.WriteSuperblock t (Ok v) got more went = step_by 2 formats.SyncSuperblock t went (omega arith)
format_fewer formats.WriteSuperblock t (Err e) got more went = step_by 2 formats.Failed t went (omega arith)
format_fewer formats.SyncSuperblock t (Ok v) got more went = step_by 1 formats.Formatted t went (omega arith)
format_fewer formats.SyncSuperblock t (Err e) got more went = step_by 1 formats.Failed t went (omega arith)
format_fewer formats.Formatted t r got more went = absurd (more refl)
format_fewer formats.TooSmall t r got more went = absurd (more refl)
format_fewer formats.Marked t r got more went = absurd (more refl)
format_fewer formats.Failed t r got more went = absurd (more refl)

pub goes_fewer : (p q : Plan) (r : Answer) (got : List ℕ) → (asked p ≡ Done → ⊥) → Goes p r got q → calls_left q < calls_left p
goes_fewer (Settling n) q (Ok v) got more went = by 8 (ReadingSuperblock n) q went (omega arith)
goes_fewer (Settling n) q (Err e) got more went = by 8 (Refused Device) q went (omega arith)
goes_fewer (ReadingSuperblock n) q (Ok v) got more went = read_superblock n got q went
goes_fewer (ReadingSuperblock n) q (Err e) got more went = by 7 (Refused Device) q went (omega arith)
goes_fewer (ReadingGate size) q (Ok v) got more went = by 6 (ReadingRecord size _) q went (omega arith)
goes_fewer (ReadingGate size) q (Err e) got more went = by 6 (Refused Device) q went (omega arith)
goes_fewer (ReadingRecord size side) q (Ok v) got more went = read_record size side got q went
goes_fewer (ReadingRecord size side) q (Err e) got more went = by 5 (Refused Device) q went (omega arith)
goes_fewer (Renewing k) q r got more went = by (left_at k.step) (Renewing (record k { step = step_after k.step r })) q went (commit_fewer k.from.side k.step r more)
goes_fewer (Committing k) q r got more went = by (left_at k.step) (Committing (record k { step = step_after k.step r })) q went (commit_fewer k.from.side k.step r more)
goes_fewer (Formatting k) q r got more went = by (format_left k.step) (Formatting (record k { step = went.0 })) q went.2 (format_fewer k.step went.0 r got more went.1)
goes_fewer (Found found) q r got more went = absurd (more refl)
goes_fewer (Refused e) q r got more went = absurd (more refl)

-- ---- the plan is of the same task
superblock_task : (n : ℕ) (got : List ℕ) (q : Plan) → ReadsSuperblock n got q → task_of q ≡ Opens
superblock_task n got (ReadingGate size) went = refl
superblock_task n got (Refused e) went = refl
superblock_task n got q went = absurd went

record_task : (size : Size) (side : ℕ) (got : List ℕ) (q : Plan) → ReadsRecord size side got q → task_of q ≡ Opens
record_task size side got (Found found) went = refl
record_task size side got (Renewing k) went = refl
record_task size side got (Refused e) went = refl
record_task size side got q went = absurd went

pub goes_task : (p q : Plan) (r : Answer) (got : List ℕ) → (asked p ≡ Done → ⊥) → Goes p r got q → task_of q ≡ task_of p
goes_task (Settling n) q (Ok v) got more went = ap task_of went
goes_task (Settling n) q (Err e) got more went = ap task_of went
goes_task (ReadingSuperblock n) q (Ok v) got more went = superblock_task n got q went
goes_task (ReadingSuperblock n) q (Err e) got more went = ap task_of went
goes_task (ReadingGate size) q (Ok v) got more went = ap task_of went
goes_task (ReadingGate size) q (Err e) got more went = ap task_of went
goes_task (ReadingRecord size side) q (Ok v) got more went = record_task size side got q went
goes_task (ReadingRecord size side) q (Err e) got more went = ap task_of went
goes_task (Renewing k) q r got more went = ap task_of went
goes_task (Committing k) q r got more went = ap task_of went
goes_task (Formatting k) q r got more went = ap task_of went.2
goes_task (Found found) q r got more went = absurd (more refl)
goes_task (Refused e) q r got more went = absurd (more refl)
