-- From what an examiner makes of a disk to what the program writes of its file.
use Rattle.std.proofs.Common.{◌≡◌, ◌≢◌, ◌⊎◌, ◌%◌, ℕ, Bool, true, false, List, [], ◌++◌, Option, None, Some, Result, Ok, Err, IfErr, IfOk, IfSome, OnOk, inl, inr, length, refl, subst}
use Rattle.std.specs.Io.KnownBytes.{Appends}
use Rattle.board_files.specs.{Disks.{IsLookedAt, first_sectors}, Faults.IsFileFault}
use Rattle.board_model.specs.declared.refusal.Refusal.{Refusal}
use Rattle.board_model.specs.declared.refusal.Refusal.TheVariants.{NotFormatted, BadShape, BadRecord, Device, Memory, NoImage, BadImage, Output}
use Rattle.command_line.specs.{declared.fault.ProgramFault.{ProgramFault, TheVariants.Refused}, Kinds.no_work, Told.fault_of}
use Rattle.command_line.specs.declared.{NoWork.NoWork, files.FileFault.FileFault}
use Rattle.clap.specs.{Words.{IsAmong, fault_of as kinds_of}, declared.error.kind.ErrorKind.{ErrorKind, TheVariants.OutOfMemory}}
use Rattle.disk.specs.Facts.{Content, Facts, IsFresh}
use Rattle.board_session.specs.Examined.{IfLookedAt, IsFaultOf, IsFaultOver, IsWorked, RefusesBytes, RefusesLines, RefusesMemory, WritesMemory, WritesNothing, WritesSeen, WritesWork, has_bad, status_of}
use Rattle.board_session.specs.{ExaminerTexts.{block_text, seen_text}, ExaminerUsage.{AskForNone, sbidisk}}
use Rattle.board_session.specs.declared.examiner_usage.DiskWork.{DiskWork}
use Rattle.report_lines.specs.{Memories.{HoldsMemory, MemoryRefused}, Sights.{IsSeen, SeeRefused}, declared.sees.Seen.Seen}

-- a disk that has just the sectors of the file that are looked at
abbrev Shows : Option (List ℕ) → Facts → Type 0
Shows bytes disk = IfSome bytes (λ all. (n : ℕ) × IsLookedAt n all × IsFresh (first_sectors n all) disk)

looked_at : (bytes : Option (List ℕ)) (disk : Facts) (P : Content → Type 0) → Shows bytes disk → P disk.content → IfLookedAt bytes P
looked_at None disk P shows p = tt
looked_at (Some all) disk P shows p = (shows.0, shows.1, subst P shows.2.reads p)

pub writes_seen : (bytes at old now : Option (List ℕ)) (disk : Facts) (seen : Seen) (block : ℕ) (bad : Bool) → bad ≡ has_bad seen → at ≡ bytes
    → IfSome at (λ all. (n : ℕ) × IsLookedAt n all × IsFresh (first_sectors n all) disk) → IsSeen disk.content seen
    → IfSome at (λ all. block ≡ 512) → Appends old now (seen_text seen ++ block_text block) → WritesSeen bytes bad old now
writes_seen bytes at old now disk seen block bad says is shows sees plain written =
    (seen, block, looked_at bytes disk (λ c. IsSeen c seen) (rw (← is) shows) sees, rw (← is) plain, written, says)

pub writes_memory : (bytes at old now : Option (List ℕ)) (disk : Facts) (memory : List ℕ) → at ≡ bytes
    → IfSome at (λ all. (n : ℕ) × IsLookedAt n all × IsFresh (first_sectors n all) disk) → HoldsMemory disk.content memory
    → Appends old now memory → WritesMemory bytes old now
writes_memory bytes at old now disk memory is shows holds written =
    (memory, looked_at bytes disk (λ c. HoldsMemory c memory) (rw (← is) shows) holds, written)

-- ---- why it was not written
pub unread : (Refuses : Content → Refusal → Type 0) (bytes : Option (List ℕ)) (fault : ProgramFault) → IsFileFault fault → IsFaultOver Refuses bytes fault
unread Refuses bytes fault is = inl is

pub unwritten : (Refuses : Content → Refusal → Type 0) (bytes : Option (List ℕ)) (fault : ProgramFault) (e : Refusal) → fault ≡ Refused e → e ≡ Output → IsFaultOver Refuses bytes fault
unwritten Refuses bytes fault e is output = let P : Refusal → Type 0 = λ x. fault ≡ Refused x in inr (inl (subst P output is))

of_bytes : (Refuses : Content → Refusal → Type 0) (bytes : Option (List ℕ)) (e : Refusal) (P : List ℕ → Type 0) → IfSome bytes P → ((all : List ℕ) → P all → RefusesBytes Refuses all e) → IfSome bytes (λ all. RefusesBytes Refuses all e)
of_bytes Refuses None e P has from = tt
of_bytes Refuses (Some all) e P has from = from all has

pub not_whole : (Refuses : Content → Refusal → Type 0) (bytes at : Option (List ℕ)) (fault : ProgramFault) → at ≡ bytes
    → IsFileFault fault ⊎ ((fault ≡ Refused BadShape) × IfSome at (λ all. length all % 512 ≢ 0)) → IsFaultOver Refuses bytes fault
not_whole Refuses bytes at fault is (inl file) = inl file
not_whole Refuses bytes at fault is (inr (e, has)) =
    let P : Option (List ℕ) → Type 0 = λ b. IfSome b (λ all. length all % 512 ≢ 0) in
    inr (inr (BadShape, e, of_bytes Refuses bytes BadShape (λ all. length all % 512 ≢ 0) (subst P is has) (λ all odd. inl (refl, odd))))

-- a disk of the sectors that are looked at is refused: by what it holds, or for want of memory
over_disk : (Refuses : Content → Refusal → Type 0) (bytes at : Option (List ℕ)) (disk : Facts) (fault : ProgramFault) (e : Refusal) → fault ≡ Refused e → at ≡ bytes
    → Shows at disk → (e ≡ Memory) ⊎ Refuses disk.content e → IsFaultOver Refuses bytes fault
over_disk Refuses bytes at disk fault e is same shows (inl memory) = let P : Refusal → Type 0 = λ x. fault ≡ Refused x in inl (inr (subst P memory is))
over_disk Refuses bytes at disk fault e is same shows (inr refuses) =
    let P : Option (List ℕ) → Type 0 = λ b. Shows b disk in
    let Q : List ℕ → Type 0 = λ all. (n : ℕ) × IsLookedAt n all × IsFresh (first_sectors n all) disk in
    let R : Content → Type 0 = λ c. Refuses c e in
    inr (inr (e, is, of_bytes Refuses bytes e Q (subst P same shows) (λ all x. inr (x.0, x.1, subst R x.2.reads refuses))))

pub lines_refused : (bytes at : Option (List ℕ)) (disk new : Facts) (fault : ProgramFault) (e : Refusal) → fault ≡ Refused e → at ≡ bytes
    → IfSome at (λ all. (n : ℕ) × IsLookedAt n all × IsFresh (first_sectors n all) disk) → SeeRefused disk e new → IsFaultOver RefusesLines bytes fault
lines_refused bytes at disk new fault e is same shows refuses = over_disk RefusesLines bytes at disk fault e is same shows (by e refuses)
  where
    by : (e : Refusal) → SeeRefused disk e new → (e ≡ Memory) ⊎ RefusesLines disk.content e
    by NotFormatted x = inr x
    by BadShape x = inr x
    by Device x = inr tt
    by Memory x = inl refl
    by e x = absurd x

pub memory_refused : (bytes at : Option (List ℕ)) (disk new : Facts) (fault : ProgramFault) (e : Refusal) → fault ≡ Refused e → at ≡ bytes
    → IfSome at (λ all. (n : ℕ) × IsLookedAt n all × IsFresh (first_sectors n all) disk) → MemoryRefused disk e new → IsFaultOver RefusesMemory bytes fault
memory_refused bytes at disk new fault e is same shows refuses = over_disk RefusesMemory bytes at disk fault e is same shows (by e refuses)
  where
    by : (e : Refusal) → MemoryRefused disk e new → (e ≡ Memory) ⊎ RefusesMemory disk.content e
    by NotFormatted x = inr x
    by BadShape x = inr x
    by BadRecord x = inr x
    by NoImage x = inr x
    by BadImage x = inr x
    by Device x = inr tt
    by Memory x = inl refl
    by e x = absurd x

-- ---- the status
on_ok : (P : Bool → Type 0) (Q : Type 0) (r : Result Bool FileFault) → IfOk r P → OnOk r Q → IfOk (fault_of r) (λ bad. P bad × Q)
on_ok P Q (Ok bad) p q = (p, q)
on_ok P Q (Err e) p q = tt

both_err : (P Q : ProgramFault → Type 0) (r : Result Bool FileFault) → IfErr r (λ e. P e.fault) → IfErr r (λ e. Q e.fault) → IfErr (fault_of r) (λ fault. P fault × Q fault)
both_err P Q (Ok bad) p q = tt
both_err P Q (Err e) p q = (p, q)

-- where the output failed anything may stand in it
pub output_failed : (fault : ProgramFault) (e : Refusal) (old now : Option (List ℕ)) → fault ≡ Refused e → e ≡ Output → WritesNothing fault old now
output_failed fault e old now is output = λ other. let P : Refusal → Type 0 = λ x. fault ≡ Refused x in absurd (other (subst P output is))

pub ends_closed : (disk_at : List ℕ → Option (List ℕ)) (work : DiskWork) (old now : Option (List ℕ)) (held : List ℕ) (closed : Bool)
    (r : Result Bool FileFault) → closed ≡ true → IfOk r (λ bad. WritesWork disk_at work bad old now) → OnOk r (held ≡ [])
    → IfErr r (λ e. IsFaultOf disk_at work e.fault) → IfErr r (λ e. WritesNothing e.fault old now) → IsWorked disk_at work old now held closed 1
ends_closed disk_at work old now held closed r is did whole failed spared =
    (fault_of r, rw is refl, on_ok (λ bad. WritesWork disk_at work bad old now) (held ≡ []) r did whole, both_err (IsFaultOf disk_at work) (λ fault. WritesNothing fault old now) r failed spared)

pub ends_open : (disk_at : List ℕ → Option (List ℕ)) (work : DiskWork) (old now : Option (List ℕ)) (held : List ℕ) (closed : Bool) (status : ℕ)
    (r : Result Bool FileFault) → closed ≡ false → status ≡ status_of (fault_of r)
    → IfOk r (λ bad. WritesWork disk_at work bad old now) → OnOk r (held ≡ []) → IfErr r (λ e. IsFaultOf disk_at work e.fault)
    → IfErr r (λ e. WritesNothing e.fault old now) → IsWorked disk_at work old now held closed status
ends_open disk_at work old now held closed status r shut is did whole failed spared =
    (fault_of r, rw shut is, on_ok (λ bad. WritesWork disk_at work bad old now) (held ≡ []) r did whole, both_err (IsFaultOf disk_at work) (λ fault. WritesNothing fault old now) r failed spared)

-- the words of a command line whose own text has an error of that kind ask for none
pub asks_for_none : (words : List (List ℕ)) (kind : ErrorKind) (why : NoWork) → why ≡ no_work kind
    → (kind ≡ OutOfMemory) ⊎ IsAmong kind (kinds_of sbidisk words) → AskForNone words why
asks_for_none words kind why is (inl memory) = inl (rw (is, memory) refl)
asks_for_none words kind why is (inr among) = inr (inl (kind, among, is))
