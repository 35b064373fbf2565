-- A session over a disk, in the words of the headline. Source: docs/CONSOLE.md.
use Rattle.std.specs.Prelude.{◌≡◌, ◌⊎◌, ℕ, ◌+◌, ◌<◌, true, false, List, Option, None, Some, length, slice_index}
use Rattle.board_model.specs.Durable.{DurableState, Change, after, fold, refusal_of}
use Rattle.board_model.specs.Shapes.{Size}
use Rattle.board_model.specs.declared.durable.Entry.{Entry}
use Rattle.store.specs.Taken.{are_taken}
use Rattle.board.specs.Moments.{commands_by}
use Rattle.board_model.specs.declared.boot_mode.BootMode.{BootMode}
use Rattle.disk.specs.Facts.{Content, Facts, Failed}
use Rattle.board_files.specs.Files.{FileFacts, sync_of}
use Rattle.hart_threads.specs.Doubts.{IsDoubtOf}
use Rattle.hart_threads.specs.Heard.{Hearing}
use Rattle.hart_threads.specs.Since.{IsOfFirst}
use Rattle.board_session.specs.Commands.{party}
use Rattle.board_session.specs.Dialogues.{DialogueEnds, Written, dialogue_ends}
use Rattle.board_session.specs.declared.talks.Left.{Left}
use Rattle.board_session.specs.Sessions.{IsAcknowledged, IsOfLife, LeftBefore, TalksIf}

-- What a session keeps whose disk old stood for the state s, and whose boot issued those commands: its disk now is that of a life which
-- began in s (`IsOfLife`), and the console was told these receipts of its journal.
pub record KeepsJournal (size : Size) (s : DurableState) (issued : List Change) (old disk : Facts) (moments : List ℕ) (heard : Hearing) : Type 0 where
  pub console : List (ℕ × Entry)
  pub life : IsOfLife size s issued old.failures (LeftBefore false old size s issued) old.moment moments console heard.doubt disk

-- What an open finds after a session that began in the state s by that mode: what the commands of a journal make of s,
-- just those that were acknowledged to the boot, the console and the harts; or these and the one in doubt. There is one
-- only where the disk failed, by how often it had failed before the session and after it. It is the console's, which was
-- answered 6, or one that a durable call of a hart asks for. What was read and answered is of that journal.
pub record FindsSession (size : Size) (s : DurableState) (mode : BootMode) (before after_it : ℕ) (left : Option Left) (a : DialogueEnds)
    (input : Option (List ℕ)) (output : Written) (heard : Hearing) (found : DurableState) : Type 0 where
  pub journal : List Change
  pub console : List (ℕ × Entry)
  pub acknowledged : IsAcknowledged size (commands_by mode s) journal console
  pub taken : are_taken s journal ≡ true
  pub talks : TalksIf s (commands_by mode s) left a (dialogue_ends input output (party console heard))
  pub is : (found ≡ fold s journal)
      ⊎ ((c : Change) × (refusal_of (fold s journal) c ≡ None) × Failed before after_it × IsDoubtOf size (Some c) heard.doubt × (found ≡ after (fold s journal) c))

-- What any crash has left at a moment of a session over the disk old, within a command and within a call of the disk too, stands for what
-- some first ones of these commands make of s.
abbrev pub IsCutAnywhere : Size → DurableState → List Change → Facts → Facts → Type 0
IsCutAnywhere size s commands old disk = (c : Content) → disk.since old.moment c → ∥ IsOfFirst size s commands 0 c ∥₁

-- What a file that keeps its word keeps of such a session, whose disk was kept in it: now all commands of its journal, so many, or these
-- and the one in doubt; and at each moment of the session, within a call of the file too, some first of them, with all up to each
-- receipt that had been made by then.
pub record KeepsSession (size : Size) (s : DurableState) (commands : List Change) (issued whole begun : ℕ) (disk : Facts) (moments : List ℕ)
    (f : FileFacts) : Type 0 where
  pub now : (c : Content) → f.may_leave c → ∥ IsOfFirst size s commands whole c ∥₁
  pub ever : (c : Content) → f.since (sync_of disk f begun) c → ∥ IsOfFirst size s commands 0 c ∥₁
  pub kept : (i : ℕ) → i < length moments → (c : Content) → f.since (sync_of disk f (slice_index moments i)) c
      → ∥ IsOfFirst size s commands (issued + i) c ∥₁
