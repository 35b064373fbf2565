-- What a session makes of its disk: over which disks its board runs, why it is refused before any thread, and
-- what the disk that it gives back stands for. Source: docs/CONSOLE.md, "Statuses and faults".
use Rattle.std.specs.Prelude.{◌≡◌, ◌⊎◌, ◌≤◌, ℕ, Bool, true, false, List, [], ◌∷◌, ◌++◌, All, Option, Some, None, Result, Ok, Err, IfSome, length, map}
use Rattle.std.specs.Option.{option_to_list}
use Rattle.board_model.specs.Durable.{DurableState, Change, formatted, fold, refusal_of}
use Rattle.board_model.specs.Shapes.{Size, sectors_of}
use Rattle.board_model.specs.declared.boot_mode.BootMode.{BootMode}
use Rattle.board_model.specs.declared.durable.Command.{Command}
use Rattle.board_model.specs.declared.durable.Durable.{Durable}
use Rattle.board_model.specs.declared.durable.Entry.{Entry}
use Rattle.board_model.specs.declared.refusal.Refusal.{Refusal}
use Rattle.board_model.specs.declared.refusal.Refusal.TheVariants.{Device, Memory, Output}
use Rattle.disk.specs.Facts.{Content, Facts, Failed}
use Rattle.store.specs.Formats.{WritesHead}
use Rattle.store.specs.Leaves.{IsMarked, LeavesOnly}
use Rattle.store.specs.Opens.{FormatRefused}
use Rattle.store.specs.Standing.{StandsFor}
use Rattle.store.specs.Taken.{are_taken}
use Rattle.board.specs.Begins.{IsBegun, RefusesBoot}
use Rattle.board.specs.Boots.{boot_refusal, PayloadsFit}
use Rattle.board.specs.Moments.{MayLeave, commands_by}
use Rattle.board.specs.PowersOn.{IsUnpowered}
use Rattle.board.specs.Unbooted.{LeavesLife}
use Rattle.machine.specs.Machine.{Machine}
use Rattle.tallies.specs.Closed.{AreReceiptsOf}
use Rattle.hart_threads.specs.Noted.{boot_told, entries_in}
use Rattle.hart_threads.specs.Threads.{ends_life}
use Rattle.hart_threads.specs.Ends.{own_receipt}
use Rattle.hart_threads.specs.declared.ends.HartEnd.{HartEnd}
use Rattle.hart_threads.specs.Called.{IsLastOf}
use Rattle.hart_threads.specs.Doubts.{IsDoubtOf}
use Rattle.hart_threads.specs.Heard.{Hearing}
use Rattle.hart_threads.specs.Since.{AreKept}
use Rattle.board_session.specs.Commands.{party}
use Rattle.board_session.specs.Dialogues.{DialogueEnds, Talks, Written, dialogue_ends}
use Rattle.board_session.specs.Histories.{HasHistory}
use Rattle.board_session.specs.declared.talks.Left.{Left}
use Rattle.board_session.specs.declared.talks.Left.TheVariants as lefts

-- ---- over which disks a board runs
-- that state allows the mode, and all payloads fit
abbrev pub Allows : Size → DurableState → BootMode → List (List ℕ) → Type 0
Allows size s mode payloads = (boot_refusal s mode ≡ None) × PayloadsFit size payloads

-- the content is formatted for that shape: it has no mark yet, and it is large enough
abbrev pub TakesFormat : Size → Content → Type 0
TakesFormat shape c = (IsMarked c → ⊥) × (sectors_of shape ≤ length c)

-- A board runs by the mode with these payloads: where a new disk is asked for, over one that takes the format
-- of the shape, whose state allows it; else over one that stands for a state which allows it.
abbrev pub RunsOver : Bool → Size → BootMode → List (List ℕ) → Content → Type 0
RunsOver true shape mode payloads c = TakesFormat shape c × Allows shape formatted mode payloads
RunsOver false shape mode payloads c =
    (size : Size) × (s : DurableState) × StandsFor c size s × Allows size s mode payloads

-- ---- why none runs
-- A new disk was formatted, and then refused by the open, by 5 where the disk failed or by 11, or by the boot. A crash
-- leaves what the format made: where a boot of the formatted state is refused, no command went to the disk.
abbrev pub RefusesNew : Size → BootMode → List (List ℕ) → Facts → Refusal → Facts → Type 0
RefusesNew shape mode payloads old e new =
    (((e ≡ Device) × Failed old.failures new.failures) ⊎ (e ≡ Memory) ⊎ RefusesBoot mode shape payloads formatted e)
    × LeavesOnly new shape formatted

-- The first refusal of the disk, in the order format, open, boot; and the disk then.
abbrev pub RefusesDisk : Bool → Size → BootMode → List (List ℕ) → Facts → Refusal → Facts → Type 0
RefusesDisk true shape mode payloads old e new =
    (FormatRefused old shape e new × WritesHead old new)
    ⊎ (TakesFormat shape old.content × RefusesNew shape mode payloads old e new)
RefusesDisk false shape mode payloads old e new =
    (found now : Option Durable) × IsUnpowered mode payloads found now old e new

-- the same, of a session that ended so
abbrev pub RefusesSession : Bool → Size → BootMode → List (List ℕ) → Facts → Result (Unit {0}) Refusal → Facts → Type 0
RefusesSession new shape mode payloads old (Ok done) disk = ⊥
RefusesSession new shape mode payloads old (Err e) disk = RefusesDisk new shape mode payloads old e disk

-- ---- the life of the session
-- What its open found, on a board of that size: what a format of the shape makes where a new disk is asked for;
-- else what the content stood for.
abbrev pub Begins : Bool → Size → Content → Size → DurableState → Type 0
Begins true shape c size s = (size ≡ shape) × (s ≡ formatted)
Begins false shape c size s = StandsFor c size s

-- the receipts of the harts, each of which has one at most, the last hart's first
abbrev pub hart_receipts : List (Option (ℕ × Entry)) → List (ℕ × Entry)
hart_receipts [] = []
hart_receipts (told ∷ harts) = hart_receipts harts ++ option_to_list told

-- Who was told the receipts of a journal: the boot those of the commands that it issued, the console its own, and
-- each hart of the board the one of the reset or suspension that ended the life, if it was told one. They are those of the
-- journal's commands: each command stands at the place of its receipt, each has one, and none has two.
pub record IsAcknowledged (size : Size) (issued journal : List Change) (console : List (ℕ × Entry)) : Type 0 where
  pub harts : List (Option (ℕ × Entry))
  pub many : length harts ≡ size.harts
  pub each : All (λ told. ends_life told ≡ true) harts
  pub receipts : AreReceiptsOf (entries_in journal) (boot_told issued ++ (console ++ hart_receipts harts))

-- What a crash at that moment or later might have left before the boot of a session was over. Of an old disk: what one might have left
-- before the session, or what some first of the commands that the boot issued make of the state found; of a disk that is
-- formatted for the session nothing is said.
abbrev pub LeftBefore : Bool → Facts → Size → DurableState → List Change → ℕ → Content → Type 0
LeftBefore true old size found issued t c = Unit {0}
LeftBefore false old size found issued t c = old.since t c ⊎ MayLeave old size found issued c

-- the moment from which on it is said
abbrev pub said_since : Bool → Facts → ℕ
said_since true old = 0
said_since false old = old.moment

-- so it was of a disk once the boot was over
abbrev pub IsBooted : Bool → Facts → Size → DurableState → List Change → Facts → Type 0
IsBooted new old size found issued disk =
    (said_since new old ≤ disk.moment)
    × ((t : ℕ) (c : Content) → t ≤ said_since new old → disk.since t c → LeftBefore new old size found issued t c)

-- The disk of a life that began in that state and has ended, of which the console was told those receipts, and that so
-- many failures had before the session. Its journal begins with what the boot issued, and is of commands that the table
-- takes, one after another from there: just those that were acknowledged, in the order of their receipts. A crash leaves the
-- state that they make of it, or with a command in doubt, which the table does not refuse, that state or the one after it;
-- and a read gives one of them. A command is in doubt only where the disk failed in the session. It is the one that the
-- console has in doubt, which was answered 6; or where the console has none, one that a durable call of a hart asks for.
-- These are the moments at which its boot was over and its receipts were made. At each moment of it, within a command too, a crash has left
-- what some first commands of the journal make, with each that had been acknowledged by then, or these and the one in doubt; or what is
-- said of the time before its boot was over.
pub record IsOfLife (size : Size) (found : DurableState) (issued : List Change) (failures : ℕ) (earlier : ℕ → Content → Type 0)
    (moment : ℕ) (moments : List ℕ) (console : List (ℕ × Entry)) (doubtful : Option Command) (disk : Facts) : Type 0 where
  pub journal : List Change
  pub acknowledged : IsAcknowledged size issued journal console
  pub begun : (later : List Change) × (journal ≡ issued ++ later)
  pub taken : are_taken found journal ≡ true
  pub doubt : Option Change
  pub leaves : LeavesLife doubt disk size (fold found journal)
  pub allowed : (c : Change) → doubt ≡ Some c → refusal_of (fold found journal) c ≡ None
  pub reads : (s : DurableState) × StandsFor disk.content size s
  pub failed : (c : Change) → doubt ≡ Some c → Failed failures disk.failures
  pub asked : IsDoubtOf size doubt doubtful
  pub kept : AreKept size found earlier moment (length issued) journal doubt disk moments

-- what was read and answered in a life that began in that state, by why the console left: nothing where it was not
-- begun
abbrev pub TalksIf : DurableState → List Change → Option Left → DialogueEnds → DialogueEnds → Type 0
TalksIf found issued None a b = b ≡ a
TalksIf found issued (Some left) a b = Talks found issued left a b

-- whether the session was refused: where no thread could be started, and where an answer could not be written
abbrev pub outcome_of : Option Left → Result (Unit {0}) Refusal
outcome_of None = Err Memory
outcome_of (Some lefts.Quit) = Ok tt
outcome_of (Some lefts.EndOfInput) = Ok tt
outcome_of (Some lefts.InputFailed) = Ok tt
outcome_of (Some lefts.Unwritten) = Err Output

-- ---- the harts of the session
-- the command that ended its loop, its own or another hart's, is the last of that journal
abbrev pub IsOver : List Change → HartEnd → Type 0
IsOver journal e = IfSome e.over (λ t. IsLastOf journal t.0 t.1)

-- The ends of a session's harts are of that life: each hart was told the receipt that its end has of it, and no other; and the command that
-- ended its loop, its own or another hart's, is the journal's last.
abbrev pub AreOfLife : List (Option (ℕ × Entry)) → List Change → Option Left → List HartEnd → Type 0
AreOfLife harts journal None ends = Unit {0}
AreOfLife harts journal (Some left) ends =
    (harts ≡ map own_receipt ends) × All (IsOver journal) ends

-- The board was on, over a disk that allows it, with the memory and harts that the mode begins. The disk given back is
-- that of the life that it then began; and what was read and answered is of that life, with its receipts, and with the refusals and
-- states that the console heard. Its bus has one history, of which the memory of each suspension was a moment. Its harts are those of the
-- board that was on, were driven, and ended so, with what that history has of them and the receipts that they were told; where a hart ended
-- the life, by the last command of its journal.
pub record RanOver (new : Bool) (shape : Size) (mode : BootMode) (payloads : List (List ℕ)) (turns : ℕ)
    (old disk : Facts) (moments : List ℕ) (left : Option Left) (a : DialogueEnds) (input : Option (List ℕ)) (output : Written)
    (heard : Hearing) (ends : List HartEnd) : Type 0 where
  pub allowed : RunsOver new shape mode payloads old.content
  pub size : Size
  pub found : DurableState
  pub begins : Begins new shape old.content size found
  pub machine : Machine
  pub powered : IsBegun mode size payloads found machine
  pub console : List (ℕ × Entry)
  pub life : IsOfLife size found (commands_by mode found) old.failures (LeftBefore new old size found (commands_by mode found))
      (said_since new old) moments console heard.doubt disk
  pub talks : TalksIf found (commands_by mode found) left a (dialogue_ends input output (party console heard))
  pub history : HasHistory size machine turns life.journal life.doubt heard.woken left ends
  pub ended : AreOfLife life.acknowledged.harts life.journal left ends
