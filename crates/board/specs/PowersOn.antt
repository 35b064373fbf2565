-- What a power-on leaves: a board that is on, or one that is off and gives its disk back.
-- Source: docs/BOARD.md, "Power on"; docs/STORE.md, "What a crash leaves".
use Rattle.std.specs.Prelude.{◌≡◌, ◌≤◌, ℕ, List, Option, None, Some}
use Rattle.board_model.specs.Durable.{DurableState}
use Rattle.board_model.specs.Shapes.{Size}
use Rattle.board_model.specs.Views.{durable_of}
use Rattle.board_model.specs.declared.durable.Durable.{Durable}
use Rattle.board_model.specs.declared.boot_mode.BootMode.{BootMode}
use Rattle.board_model.specs.declared.refusal.Refusal.{Refusal}
use Rattle.disk.specs.Facts.{Content, Facts, LeavesSince, counted}
use Rattle.disk.specs.FaultState.{FaultState}
use Rattle.store.specs.Leaves.{IsIdle, SameLength, Leaves, LeftAsBefore, LeavesOnly}
use Rattle.store.specs.Lives.{Life, now_of}
use Rattle.store.specs.Opens.{IsBoard, OpenRefused, CausedRefusal, open_calls, OpenCalls}
use Rattle.store.specs.Standing.{StandsFor}
use Rattle.store.specs.Answers.{StoreView}
use Rattle.machine.specs.Machine.{Machine}
use Rattle.board.specs.Boots.{PayloadsFit, boot_refusal, life_after}
use Rattle.board.specs.Begins.{IsBegun, RefusesBoot}
use Rattle.board.specs.Moments.{commands_by, gone_before, MayLeave, AreWritten, LeavesFrom}
use Rattle.board.specs.Readies.{UnbootedCalls}
use Rattle.board.specs.Unbooted.{IsLifeLeft, LeavesLife, CountsRefusal}

-- The board is on. Its life begins in the state that the disk stands for, which a crash just before could
-- have left, with the commands that the mode issues there, acknowledged; a crash leaves the state now and no
-- other. At each moment since the call's start a crash leaves what one just before could have left, or what
-- some first of those commands make of the state found. Now it leaves what all of them, written one after
-- another, make of a content that one just before could have left, or of its state in a record of version 2.
-- The mode was allowed and all payloads fit, and its memory and harts are those that the mode begins.
pub record IsOn (mode : BootMode) (payloads : List (List ℕ)) (disk : Facts) (store : StoreView) (machine : Machine)
    : Type 0 where
  pub reads : StandsFor disk.content store.size store.life.found
  pub found : Leaves disk store.size store.life.found
  pub life : store.life ≡ life_after mode store.life.found
  pub only : LeavesOnly store.disk store.size (now_of store.life)
  pub any_moment : LeavesSince disk store.disk (MayLeave disk store.size store.life.found
      (commands_by mode store.life.found))
  pub written : (c : Content) → store.disk.may_leave c
      → LeavesFrom disk (AreWritten store.size store.life.found (commands_by mode store.life.found)) c
  pub allowed : boot_refusal store.life.found mode ≡ None
  pub fits : PayloadsFit store.size payloads
  pub begun : IsBegun mode store.size payloads store.life.found machine
  pub opened : store.failures_at_open ≡ disk.failures

-- The board is off, after an open that found this state, which is told, and so is the state now: that of the
-- life which the refusal left. A crash leaves that state alone, but after 6 that state or the one after the
-- command in doubt; and at each moment since the call's start what one just before could have left, or where
-- commands may have gone to the disk, what some first of them make of the state found.
pub record IsOff (mode : BootMode) (payloads : List (List ℕ)) (found now : Durable) (old : Facts) (e : Refusal)
    (new : Facts) : Type 0 where
  pub size : Size
  pub state : DurableState
  pub life : Life
  pub shows : found ≡ durable_of state
  pub tells : now ≡ durable_of (now_of life)
  pub reads : StandsFor old.content size state
  pub earlier : Leaves old size state
  pub why : RefusesBoot mode size payloads state e
  pub stopped : IsLifeLeft (commands_by mode state) e state life
  pub left : LeavesLife life.doubt new size (now_of life)
  pub any_moment : LeavesSince old new (MayLeave old size state (gone_before e (commands_by mode state)))

-- The open was refused. At each moment since its start a crash leaves what one just before could have left, or
-- its state in a record of version 2.
pub record IsUnopened (old : Facts) (e : Refusal) (new : Facts) : Type 0 where
  pub why : OpenRefused old e new
  pub any_moment : LeavesSince old new (LeftAsBefore old)

-- Of a board that is not on, by what is told of its states: none where the open was refused, else the one
-- found and the one now.
abbrev pub IsUnpowered : BootMode → List (List ℕ) → Option Durable → Option Durable → Facts → Refusal → Facts
    → Type 0
IsUnpowered mode payloads None None old e new = IsUnopened old e new
IsUnpowered mode payloads (Some found) (Some now) old e new = IsOff mode payloads found now old e new
IsUnpowered mode payloads found now old e new = ⊥

-- The disk of a board that is on: as long, nothing of it is lent, and it did not fail.
pub record KeepsDisk (old : Facts) (m : FaultState) (new : Facts) (n : FaultState) : Type 0 where
  pub length : SameLength old new
  pub none_out : IsIdle new
  pub cause : n ≡ m
  pub no_failure : new.failures ≡ old.failures

-- The disk that is given back: as long, nothing of it is lent, and a refusal by its failure has a cause and
-- is counted.
pub record GivesDisk (old : Facts) (m : FaultState) (e : Refusal) (new : Facts) (n : FaultState) : Type 0 where
  pub length : SameLength old new
  pub none_out : IsIdle new
  pub cause : CausedRefusal m e n
  pub counts : CountsRefusal old.failures e new.failures
  pub no_fewer : old.failures ≤ new.failures

-- How many calls of the disk a power-on made that left the board off, of a disk that has sectors: those of the
-- open, which tells no state where it was refused itself, and after one that succeeded those of the boot. So a
-- board that is refused memory has read nothing of its image.
abbrev pub OffCalls : Content → Option Durable → Refusal → ℕ → ℕ → Type 0
OffCalls c None e old new = OpenCalls c e old new
OffCalls c (Some found) e old new =
    (size : Size) × IsBoard size c × UnbootedCalls size e (counted old (open_calls c)) new
