-- What the program makes of its files, and how it ends. Source: docs/CONSOLE.md, "Statuses and faults".
use Rattle.std.specs.Prelude.{◌≡◌, ◌⊎◌, ℕ, Bool, true, false, List, map, Option, Result, Ok, Err, Some, IfErr, IfSome, OnErr, OnOk, replicate, string_bytes}
use Rattle.std.specs.Option.{option_map}
use Rattle.board_files.specs.Disks.{HoldsDisk, IsDiskFile, IsNoDisk, KeepsOrHolds, first_sectors}
use Rattle.board_files.specs.Faults.{IsFileFault}
use Rattle.board_model.specs.Shapes.{Size, sectors_of}
use Rattle.board_model.specs.declared.refusal.Refusal.{Refusal}
use Rattle.board_session.specs.Dialogues.{Written}
use Rattle.board_session.specs.Parses.{AreParsed, AreRefused}
use Rattle.board_session.specs.Reads.{ReadsOptions}
use Rattle.board_session.specs.Refused.{AreNoOptions}
use Rattle.board_session.specs.declared.given.Options.{Options}
use Rattle.board_session.specs.Ran.{HasRun, told_of}
use Rattle.board_session.specs.declared.runs.FileLeft.{FileLeft}
use Rattle.board_session.specs.declared.runs.FileLeft.TheVariants.{None, AtEnd, AllAlong}
use Rattle.clap.specs.declared.error.kind.ErrorKind.{ErrorKind}
use Rattle.clap.specs.declared.parser.matches.Found.{Found}
use Rattle.command_line.specs.Faults.{first_fault}
use Rattle.command_line.specs.Kinds.{no_work}
use Rattle.command_line.specs.declared.NoWork.{NoWork}
use Rattle.command_line.specs.declared.NoWork.TheVariants.{Memory, Usage}
use Rattle.command_line.specs.declared.fault.ProgramFault.{ProgramFault}
use Rattle.disk.specs.Facts.{Content, Facts, IsFresh}
use Rattle.board_files.specs.Files.{AllowedSince, EverAllowed, FileKnown, IfKnown, LeavesNoMore}
use Rattle.board_files.specs.Folders.{LeftAt, NoMore, OnlyThese}
use Rattle.board_files.specs.Named.{AreFilesOf}
use Rattle.simdisk.specs.declared.sim.SimDisk.{SimDisk}

-- The disk that a session begins with, by whether it is a new one: a blank one of the shape; or the disk of the board that
-- the file holds.
abbrev pub Begins : Bool → Size → Option (List ℕ) → Facts → Type 0
Begins true shape bytes disk = IsFresh (replicate (sectors_of shape) (replicate 512 0)) disk
Begins false shape bytes disk =
    IfSome bytes (λ all. (size : Size) × IsDiskFile size all × IsFresh (first_sectors (sectors_of size) all) disk)

-- why none begins: a file could not be read or made, or memory was refused; or a file that is read is no board's
abbrev pub IsUnread : Bool → Option (List ℕ) → ProgramFault → Type 0
IsUnread true bytes fault = IsFileFault fault
IsUnread false bytes fault = IsFileFault fault ⊎ IsNoDisk bytes fault

abbrev pub IsNotBegun : Bool → Option (List ℕ) → Result (Unit {0}) ProgramFault → Type 0
IsNotBegun new bytes (Ok done) = ⊥
IsNotBegun new bytes (Err fault) = IsUnread new bytes fault

-- What a crash leaves at the path of a file that held those bytes, once a disk was to be written into it: with Ok the disk, whole, and
-- nothing else; or nothing was written, since it was there. And what one has left at any moment: what was found there, or the disk, whole.
pub record LeavesDisk {T E : Type 0} (new : Bool) (sectors : Content) (bytes : List ℕ) (written : Result T E) (now : Option (List ℕ))
    (found : List ℕ → Type 0) (left : LeftAt) : Type 0 where
  pub durable : OnOk written ((all : List ℕ) × (now ≡ Some all) × HoldsDisk new sectors (Some bytes) all
      × (OnlyThese all left.now ⊎ ((all ≡ bytes) × NoMore found left.now)))
  pub ever : (c : List ℕ) → left.ever c → found c ⊎ HoldsDisk new sectors (Some bytes) c

-- The disk was written into its file at the end, whatever the session was refused, or that could not be done: then the file is as it
-- was, or as it was to become. Of two faults the first is told.
pub record IsWritten (new : Bool) (disk : Facts) (ran : Result (Unit {0}) Refusal) (held now : Option (List ℕ)) (found : List ℕ → Type 0)
    (left : LeftAt) (done : Result (Unit {0}) ProgramFault) : Type 0 where
  pub written : Result (Unit {0}) ProgramFault
  pub stands : OnOk written (IfSome now (HoldsDisk new disk.content held))
  pub kept : OnErr written (IfSome now (KeepsOrHolds new disk.content held))
  pub crash : IfSome held (λ bytes. LeavesDisk new disk.content bytes written now found left)
  pub failed : IfErr written IsFileFault
  pub told : done ≡ first_fault (told_of ran) written

-- ---- a session over a disk
-- the bytes of the disk's file where it begins and those of the input then, and what was given to the output by then and at the end
pub record Known : Type 0 where
  pub disk : Option (List ℕ)
  pub input : Option (List ℕ)
  pub out : Written
  pub written : Written

abbrev pub known : Option (List ℕ) → Option (List ℕ) → Written → Written → Known
known disk input out written = record { disk = disk; input = input; out = out; written = written }

-- it is written into its file at the end
abbrev pub EndsInFile : {H K : Type 0} → (H → Option (List ℕ)) → (H → LeftAt) → (SimDisk → Facts) → Options → List (List ℕ) → Facts
    → (List ℕ → Type 0) → Known → FileLeft H K → Result (Unit {0}) ProgramFault → Type 0
EndsInFile bytes left facts o payloads begun found s None done = ⊥
EndsInFile bytes left facts o payloads begun found s (AtEnd held now) done = (ran : Result (Unit {0}) Refusal) × (moments : List ℕ)
    × HasRun o payloads begun (facts now) moments s.input s.out s.written ran
    × IsWritten o.new (facts now) ran s.disk (bytes held) found (left held) done
EndsInFile bytes left facts o payloads begun found s (AllAlong now moments) done = ⊥

-- It is kept in its file all along. Each content that a crash may then leave in the file is one that the disk may leave; and each that a
-- crash has left there, at any moment and within a call of the file too, is one that the disk might have left, and so it is from each
-- moment of the disk on. With the file stand the moments at which the receipts of the session were made.
abbrev pub StaysInFile : {H D K : Type 0} → (D → Facts) → (K → FileKnown) → Options → List (List ℕ) → Facts → Known
    → FileLeft H K → Result (Unit {0}) ProgramFault → Type 0
StaysInFile {D = D} facts in_file o payloads begun s None done = ⊥
StaysInFile {D = D} facts in_file o payloads begun s (AtEnd held now) done = ⊥
StaysInFile {D = D} facts in_file o payloads begun s (AllAlong kept moments) done = (now : D) × (ran : Result (Unit {0}) Refusal)
    × HasRun o payloads begun (facts now) moments.at s.input s.out s.written ran × IfKnown (in_file kept) (LeavesNoMore (facts now))
    × IfKnown (in_file kept) (EverAllowed (facts now)) × IfKnown (in_file kept) (AllowedSince (facts now)) × (done ≡ told_of ran)

-- ---- from the files to the file
-- Each slot boots what stands in the file that is named for it. A session began with the disk of the file or a blank one,
-- and it was written into the file at the end, or kept there all along, as was asked for; or none was begun. What a crash might have
-- left at the file's path before is found there.
abbrev pub HasLeft : {H D K : Type 0} → (H → Option (List ℕ)) → (H → LeftAt) → (SimDisk → Facts) → (D → Facts) → (K → FileKnown) → Options
    → (List ℕ → Option (List ℕ)) → (List ℕ → Type 0) → Known → FileLeft H K → Result (Unit {0}) ProgramFault → Type 0
HasLeft {H} {D} {K} bytes left facts file_facts in_file o bytes_at found s file_left done =
    ((file_left ≡ None) × IsNotBegun o.new s.disk done × (s.written ≡ s.out))
    ⊎ ((payloads : List (List ℕ)) × AreFilesOf bytes_at (map (option_map string_bytes) o.payloads) payloads
    × (((o.sync ≡ false) × (begun : SimDisk) × Begins o.new o.shape s.disk (facts begun)
    × EndsInFile bytes left facts o payloads (facts begun) found s file_left done)
    ⊎ ((o.sync ≡ true) × (begun : D) × Begins o.new o.shape s.disk (file_facts begun)
    × StaysInFile file_facts in_file o payloads (file_facts begun) s file_left done)))

-- the options that the words of a command line give, as the command's parser reads them
abbrev pub IsReadFrom : List (List ℕ) → Options → Type 0
IsReadFrom words o = (f : Found) × AreParsed words f × ReadsOptions f o

-- They ask for no session, for that reason. Memory was refused; or the parser refuses them, by an error that shows what they
-- ask to be shown or says a fault; or it takes them, and their values give no options, which is a fault.
abbrev pub AskForNone : List (List ℕ) → NoWork → Type 0
AskForNone words why = (why ≡ Memory) ⊎ ((kind : ErrorKind) × AreRefused words kind × (why ≡ no_work kind))
    ⊎ ((why ≡ Usage) × AreNoOptions words)

-- they are no command line, by a fault of their own
abbrev pub GiveNoOptions : List (List ℕ) → Type 0
GiveNoOptions words = ((kind : ErrorKind) × AreRefused words kind × (no_work kind ≡ Usage)) ⊎ AreNoOptions words
