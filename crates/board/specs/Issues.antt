-- What the commands of a boot make of an open store, issued one after another: once each was acknowledged, and
-- where one of them was refused. Source: docs/BOARD.md, "Power on"; docs/STORE.md, "A commit" and "A life".
use Rattle.std.specs.Prelude.{◌≡◌, ◌⊎◌, ◌≤◌, List, [], ◌∷◌, ◌++◌, length, None, false}
use Rattle.disk.specs.Facts.{Content, Facts, LeavesSince, LeavesAfter, Failed}
use Rattle.board_model.specs.Durable.{DurableState, Change, Discard}
use Rattle.board_model.specs.Shapes.{Size}
use Rattle.board_model.specs.declared.boot_mode.BootMode.{BootMode}
use Rattle.board_model.specs.declared.boot_mode.BootMode.TheVariants as modes
use Rattle.board_model.specs.declared.refusal.Refusal.{Refusal}
use Rattle.board_model.specs.declared.refusal.Refusal.TheVariants.{Device, Down}
use Rattle.store.specs.Answers.{StoreView}
use Rattle.store.specs.Leaves.{IsIdle, LeavesOnly, SameLength}
use Rattle.store.specs.Lives.{now_of}
use Rattle.store.specs.Opens.{CausedRefusal}
use Rattle.store.specs.Standing.{StandsFor}
use Rattle.board.specs.Moments.{IsAlong, AreWritten}
use Rattle.board.specs.Unbooted.{doubt_by}

-- what a mode that boots a slot issues before it counts the boot
abbrev pub drops_by : BootMode → List Change
drops_by modes.Discard = Discard ∷ []
drops_by mode = []

-- It takes the commands of a boot: none is in doubt, the life goes on, its journal has room, and a crash leaves
-- the state now alone.
pub record TakesCommands (store : StoreView) : Type 0 where
  pub sure : store.life.doubt ≡ None
  pub going : store.life.over ≡ false
  pub few : length store.life.journal ≤ 1
  pub only : LeavesOnly store.disk store.size (now_of store.life)
  pub none_out : IsIdle store.disk

-- What a crash may leave from these commands on: without any what one just before could have left, else what
-- some first of them make of the state.
abbrev pub MayIssue : Facts → Size → DurableState → List Change → Content → Type 0
MayIssue disk size s [] c = disk.may_leave c
MayIssue disk size s (change ∷ more) c = (t : DurableState) × IsAlong (change ∷ more) s t × StandsFor c size t

-- each of these commands was acknowledged, in this order, and nothing else was issued
pub record AreIssued (cs : List Change) (old new : StoreView) : Type 0 where
  pub size : new.size ≡ old.size
  pub life : new.life ≡ record old.life { journal = old.life.journal ++ cs }
  pub only : LeavesOnly new.disk new.size (now_of new.life)
  pub any_moment : LeavesSince old.disk new.disk (MayIssue old.disk old.size (now_of old.life) cs)
  pub written : (c : Content) → new.disk.may_leave c
      → LeavesAfter old.disk (AreWritten old.size (now_of old.life) cs) c
  pub opened : new.failures_at_open ≡ old.failures_at_open
  pub length : SameLength old.disk new.disk
  pub none_out : IsIdle new.disk
  pub cause : new.fault_state ≡ old.fault_state
  pub no_failure : new.disk.failures ≡ old.disk.failures

-- Some first of these commands were acknowledged, and the disk refused the next one, which after 6 is in doubt.
-- Nothing was issued after it.
pub record AreStopped (cs : List Change) (old : StoreView) (e : Refusal) (new : StoreView) : Type 0 where
  pub done : List Change
  pub later : List Change
  pub parts : cs ≡ done ++ later
  pub some : later ≡ [] → ⊥
  pub by_disk : (e ≡ Device) ⊎ (e ≡ Down)
  pub size : new.size ≡ old.size
  pub life : new.life ≡ record old.life { journal = old.life.journal ++ done; doubt = doubt_by e later }
  pub any_moment : LeavesSince old.disk new.disk (MayIssue old.disk old.size (now_of old.life) cs)
  pub opened : new.failures_at_open ≡ old.failures_at_open
  pub length : SameLength old.disk new.disk
  pub no_fewer : old.disk.failures ≤ new.disk.failures
  pub cause : CausedRefusal old.fault_state e new.fault_state
  pub failed : Failed old.disk.failures new.disk.failures
