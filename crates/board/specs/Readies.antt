-- How an open store becomes a board: what a boot by the mode makes of it, as it succeeds and as it is
-- refused. Source: docs/BOARD.md, "Power on".
use Rattle.std.specs.Prelude.{◌≡◌, ◌≤◌, ◌+◌, ◌*◌, ℕ, length}
use Rattle.board_model.specs.Durable.{DurableState}
use Rattle.board_model.specs.Shapes.{Size}
use Rattle.board_model.specs.declared.boot_mode.BootMode.{BootMode}
use Rattle.board_model.specs.declared.boot_mode.BootMode.TheVariants as modes
use Rattle.board_model.specs.declared.refusal.Refusal.{Refusal}
use Rattle.board_model.specs.declared.refusal.Refusal.TheVariants.{Device, Down, BadImage}
use Rattle.disk.specs.Facts.{Content, LeavesSince, LeavesAfter}
use Rattle.store.specs.Leaves.{IsIdle, LeavesOnly, SameLength}
use Rattle.store.specs.Lives.{begun, now_of}
use Rattle.store.specs.Opens.{CausedRefusal}
use Rattle.store.specs.Answers.{StoreView}
use Rattle.susp.specs.Wakes.{WakeStops}
use Rattle.board.specs.Boots.{life_after}
use Rattle.board.specs.Begins.{HasItsHart}
use Rattle.board.specs.Moments.{commands_by, gone_before, MayLeave, AreWritten}
use Rattle.board.specs.Unbooted.{IsLifeLeft, CountsRefusal}

-- it was just opened
pub record IsOpen (store : StoreView) : Type 0 where
  pub begins : store.life ≡ begun store.life.found
  pub only : LeavesOnly store.disk store.size store.life.found
  pub none_out : IsIdle store.disk
  pub has : HasItsHart store.size store.life.found

-- the store of a boot by the mode, once its commands were acknowledged
pub record IsIssued (mode : BootMode) (old new : StoreView) : Type 0 where
  pub size : new.size ≡ old.size
  pub life : new.life ≡ life_after mode old.life.found
  pub only : LeavesOnly new.disk new.size (now_of new.life)
  pub any_moment : LeavesSince old.disk new.disk (MayLeave old.disk old.size old.life.found
      (commands_by mode old.life.found))
  pub written : (c : Content) → new.disk.may_leave c
      → LeavesAfter old.disk (AreWritten old.size old.life.found (commands_by mode old.life.found)) c
  pub opened : new.failures_at_open ≡ old.failures_at_open
  pub length : SameLength old.disk new.disk
  pub none_out : IsIdle new.disk
  pub cause : new.fault_state ≡ old.fault_state
  pub no_failure : new.disk.failures ≡ old.disk.failures

-- the store of a boot by the mode that was refused so
pub record IsUnissued (mode : BootMode) (old : StoreView) (e : Refusal) (new : StoreView) : Type 0 where
  pub size : new.size ≡ old.size
  pub life : IsLifeLeft (commands_by mode old.life.found) e old.life.found new.life
  pub any_moment : LeavesSince old.disk new.disk (MayLeave old.disk old.size old.life.found
      (gone_before e (commands_by mode old.life.found)))
  pub opened : new.failures_at_open ≡ old.failures_at_open
  pub length : SameLength old.disk new.disk
  pub no_fewer : old.disk.failures ≤ new.disk.failures
  pub cause : CausedRefusal old.fault_state e new.fault_state
  pub counts : CountsRefusal old.disk.failures e new.disk.failures

-- How many calls of the disk a boot by the mode makes after the open: two for each page of an image that is
-- resumed, and four for each command.
abbrev pub boot_calls : BootMode → Size → DurableState → ℕ
boot_calls modes.Resume size s = 2 * size.pages + 4
boot_calls mode size s = 4 * length (commands_by mode s)

-- And how many where it was refused so: none for all that is looked at first, memory too; of an image that is bad
-- those of its load, which ends at the place that shows it.
abbrev pub UnbootedCalls : Size → Refusal → ℕ → ℕ → Type 0
UnbootedCalls size Device old new = Unit {0}
UnbootedCalls size Down old new = Unit {0}
UnbootedCalls size BadImage old new = WakeStops size.pages BadImage old new
UnbootedCalls size e old new = new ≡ old
