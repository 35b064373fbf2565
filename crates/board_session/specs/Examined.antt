-- What the examiner makes of a disk's file, and its status. Source: docs/CONSOLE.md, "The program `sbidisk`".
use Rattle.std.specs.Prelude.{◌≡◌, ◌≢◌, ◌⊎◌, ◌%◌, ℕ, Bool, true, false, List, [], ◌++◌, Option, IfErr, IfOk, IfSome, Result, Ok, Err, length, ⊤}
use Rattle.std.specs.Io.KnownBytes.{Appends}
use Rattle.board_files.specs.Disks.{IsLookedAt, first_sectors}
use Rattle.board_files.specs.Faults.{IsFileFault}
use Rattle.board_model.specs.declared.refusal.Refusal.{Refusal}
use Rattle.board_model.specs.declared.refusal.Refusal.TheVariants.{NotFormatted, BadShape, BadRecord, Device, NoImage, BadImage, Output}
use Rattle.command_line.specs.Faults.{status_after, without_work}
use Rattle.command_line.specs.declared.NoWork.{NoWork}
use Rattle.command_line.specs.declared.fault.ProgramFault.{ProgramFault}
use Rattle.command_line.specs.declared.fault.ProgramFault.TheVariants.{Refused}
use Rattle.disk.specs.Facts.{Content}
use Rattle.board_session.specs.ExaminerTexts.{block_text, seen_text}
use Rattle.board_session.specs.ExaminerUsage.{AskForNone, IsNamedBy}
use Rattle.board_session.specs.declared.examiner_usage.DiskWork.{DiskWork}
use Rattle.board_session.specs.declared.examiner_usage.DiskWork.TheVariants.{Lines, Memory}
use Rattle.report_lines.specs.Memories.{HoldsBadImage, HoldsMemory, HoldsNoImage}
use Rattle.report_lines.specs.Sights.{IsSeen}
use Rattle.report_lines.specs.declared.sees.Seen.{Seen}
use Rattle.store.specs.Opens.{ReadsAs}
use Rattle.store.specs.declared.inspects.ImageSeen.{ImageSeen}
use Rattle.store.specs.declared.inspects.ImageSeen.TheVariants.{Absent, Whole, Bad}

-- P of the sectors that are looked at of a file of these bytes, where they are known
abbrev pub IfLookedAt : Option (List ℕ) → (Content → Type 0) → Type 0
IfLookedAt bytes P = IfSome bytes (λ all. (n : ℕ) × IsLookedAt n all × P (first_sectors n all))

-- ---- what is bad
-- by whether both records are in their form, and by the image
abbrev pub says_bad : Bool → Bool → ImageSeen → Bool
says_bad true true Absent = false
says_bad true true Whole = false
says_bad true true Bad = true
says_bad true false image = true
says_bad false other image = true

-- a line says `bad`: of a record or of the image
abbrev pub has_bad : Seen → Bool
has_bad seen = says_bad seen.inspection.live seen.inspection.other seen.inspection.image

-- ---- what is written
-- The lines of what stands in the file were written, and nothing else, and they say `bad` or not. A line more says how large its blocks are,
-- where its sectors lie in blocks; of a file whose bytes are known they do not.
abbrev pub WritesSeen : Option (List ℕ) → Bool → Option (List ℕ) → Option (List ℕ) → Type 0
WritesSeen bytes bad old now =
    (seen : Seen) × (block : ℕ) × IfLookedAt bytes (λ c. IsSeen c seen) × IfSome bytes (λ all. block ≡ 512)
    × Appends old now (seen_text seen ++ block_text block) × (bad ≡ has_bad seen)

-- the memory of the image that stands in the file was written, and nothing else
abbrev pub WritesMemory : Option (List ℕ) → Option (List ℕ) → Option (List ℕ) → Type 0
WritesMemory bytes old now = (memory : List ℕ) × IfLookedAt bytes (λ c. HoldsMemory c memory) × Appends old now memory

-- what was asked for was written, and a line of it says `bad` or none does
abbrev pub WritesWork : (List ℕ → Option (List ℕ)) → DiskWork → Bool → Option (List ℕ) → Option (List ℕ) → Type 0
WritesWork disk_at (Lines path) bad old now = WritesSeen (disk_at path.now) bad old now
WritesWork disk_at (Memory path) bad old now = (bad ≡ false) × WritesMemory (disk_at path.now) old now

-- ---- why it was not written
-- The disk of these sectors is refused, where lines are asked for: by what it holds, or since it failed (5). The disk of a
-- board is refused by its failure alone.
abbrev pub RefusesLines : Content → Refusal → Type 0
RefusesLines c NotFormatted = ReadsAs c NotFormatted
RefusesLines c BadShape = ReadsAs c BadShape
RefusesLines c Device = ⊤
RefusesLines c e = ⊥

-- The disk of these sectors is refused, where the memory of its image is asked for: no state stands on it, or one without an
-- image, or with one that is not whole.
abbrev pub RefusesMemory : Content → Refusal → Type 0
RefusesMemory c NotFormatted = ReadsAs c NotFormatted
RefusesMemory c BadShape = ReadsAs c BadShape
RefusesMemory c BadRecord = ReadsAs c BadRecord
RefusesMemory c NoImage = HoldsNoImage c
RefusesMemory c BadImage = HoldsBadImage c
RefusesMemory c Device = ⊤
RefusesMemory c e = ⊥

-- a file of these bytes is refused: it is not whole sectors; or the disk of the sectors that are looked at is refused
abbrev pub RefusesBytes : (Content → Refusal → Type 0) → List ℕ → Refusal → Type 0
RefusesBytes Refuses all e =
    ((e ≡ BadShape) × (length all % 512 ≢ 0)) ⊎ ((n : ℕ) × IsLookedAt n all × Refuses (first_sectors n all) e)

-- Why the work over such a file failed: the file could not be read, or memory was refused; or the output failed; or the bytes
-- of the file are refused, where they are known.
abbrev pub IsFaultOver : (Content → Refusal → Type 0) → Option (List ℕ) → ProgramFault → Type 0
IsFaultOver Refuses bytes fault =
    IsFileFault fault ⊎ (fault ≡ Refused Output)
    ⊎ ((e : Refusal) × (fault ≡ Refused e) × IfSome bytes (λ all. RefusesBytes Refuses all e))

-- a fault that the work may have: it is none of the command line
abbrev pub IsFaultOf : (List ℕ → Option (List ℕ)) → DiskWork → ProgramFault → Type 0
IsFaultOf disk_at (Lines path) fault = IsFaultOver RefusesLines (disk_at path.now) fault
IsFaultOf disk_at (Memory path) fault = IsFaultOver RefusesMemory (disk_at path.now) fault

-- ---- the status
-- of a work that was done, by whether a line says `bad`, or of its fault
abbrev pub status_of : Result Bool ProgramFault → ℕ
status_of (Ok true) = 3
status_of (Ok false) = 0
status_of (Err fault) = let done : Result (Unit {0}) ProgramFault = Err fault in status_after done

-- by whether nobody reads the output any more
abbrev pub status_by : Bool → Result Bool ProgramFault → ℕ
status_by true done = 1
status_by false done = status_of done

-- nothing was written, where the fault is no failure of the output
abbrev pub WritesNothing : ProgramFault → Option (List ℕ) → Option (List ℕ) → Type 0
WritesNothing fault old now = (fault ≡ Refused Output → ⊥) → now ≡ old

-- The status is the one of the work, which was done whole where it has no fault, or of a fault that it may have: then nothing
-- was written, unless the output failed. `held` is what the writer holds back.
abbrev pub IsWorked : (List ℕ → Option (List ℕ)) → DiskWork → Option (List ℕ) → Option (List ℕ) → List ℕ → Bool → ℕ → Type 0
IsWorked disk_at work old now held closed status = (done : Result Bool ProgramFault) × (status ≡ status_by closed done)
    × IfOk done (λ bad. WritesWork disk_at work bad old now × (held ≡ []))
    × IfErr done (λ fault. IsFaultOf disk_at work fault × WritesNothing fault old now)

-- What comes of the words: the work that they name was done, or has a fault; or they ask for none.
abbrev pub IsExamined : (List ℕ → Option (List ℕ)) → List (List ℕ) → Option (List ℕ) → Option (List ℕ) → List ℕ → Bool → ℕ → Type 0
IsExamined disk_at words old now held closed status =
    ((work : DiskWork) × IsNamedBy words work × IsWorked disk_at work old now held closed status)
    ⊎ ((why : NoWork) × AskForNone words why × (status ≡ status_after (without_work why)))
