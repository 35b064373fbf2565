-- How a disk stands in a story, before it and after it, and between two steps of the run: what its proof goes by.
use Rattle.std.specs.Prelude.{◌≡◌, ℕ, true, false, Result, Ok, Err, length}
use Rattle.board_model.specs.Durable.{DurableState, Suspend, IsWhole}
use Rattle.board_model.specs.Shapes.{Size}
use Rattle.board_model.specs.Views.{change_of}
use Rattle.board_model.specs.declared.refusal.Refusal.{Refusal}
use Rattle.disk.specs.Facts.{Content, Facts}
use Rattle.disk.specs.FaultState.{FaultState, fault_state_armed, fault_state_left}
use Rattle.disk.specs.declared.device.ArmedFault.{ArmedFault}
use Rattle.simdisk.specs.contracts.device.SimDiskDisk.TheImpl as sim_disk
use Rattle.store.specs.Answers.{StoreView}
use Rattle.store.specs.Leaves.{IsKept, Leaves}
use Rattle.store.specs.Lives.{now_of}
use Rattle.store.specs.Standing.{StandsFor}
use Rattle.store.specs.Views.{view_of}
use Rattle.theorem.specs.Story.{Now, May, Commands, Loads, Resumes}
use Rattle.theorem.specs.declared.asks.Asked.{Asked}
use Rattle.theorem.specs.declared.asks.Asked.TheVariants as asked
use Rattle.theorem.specs.declared.power.Power.{Power}
use Rattle.theorem.specs.declared.power.Power.TheVariants.{Off, On}
use Rattle.theorem.specs.declared.asks.Seen.{Seen}
use Rattle.theorem.specs.declared.asks.Seen.TheVariants.{Acked, Denied}

-- Whatever a crash leaves of the disk stands for a state that the next open may find. Each such state has an image of this
-- board, if it has one.
pub record Rests (size : Size) (w : Now) (disk : Facts) (m : FaultState) : Type 0 where
  pub leaves : (c : Content) → disk.may_leave c → (s : DurableState) × May w s × StandsFor c size s
  pub whole : (s : DurableState) → May w s → IsWhole size s
  pub faults : w.faults ≡ m

-- in an open store
pub record IsOn (size : Size) (w : Now) (store : StoreView) : Type 0 where
  pub board : store.size ≡ size
  pub state : w.state ≡ now_of store.life
  pub doubt : w.doubt ≡ store.life.doubt
  pub over : w.over ≡ store.life.over
  pub receipts : w.receipts ≡ length store.life.journal
  pub faults : w.faults ≡ store.fault_state
  pub on : w.on ≡ true
  pub whole : (s : DurableState) → May w s → IsWhole size s

-- without one: each crash leaves what an open may find
pub record IsOff (size : Size) (w : Now) (disk : Facts) (m : FaultState) : Type 0 where
  pub kept : IsKept disk size
  pub only : (z : Size) (s : DurableState) → Leaves disk z s → (z ≡ size) × May w s
  pub faults : w.faults ≡ m
  pub on : w.on ≡ false
  pub whole : (s : DurableState) → May w s → IsWhole size s

abbrev pub IsAt : Size → Now → Power → Type 0
IsAt size w (Off resting) = IsOff size w (sim_disk.ghosts.facts resting.disk) (sim_disk.ghosts.fault_state resting.disk)
IsAt size w (On store) = IsOn size w (view_of store)

-- its store is gone; a fault is armed; power failed
abbrev pub unpowered : Now → Now
unpowered w = record w { on = false }

abbrev pub arming : ArmedFault → Now → Now
arming fault w = record w { faults = fault_state_armed fault w.faults }

abbrev pub cut_off : Now → Now
cut_off w = record w { on = false; faults = fault_state_left w.faults }

-- what is asked of an open store
abbrev pub IsCall : Asked → Type 0
IsCall asked.Open = ⊥
IsCall (asked.Arm fault) = ⊥
IsCall (asked.Cut fill) = ⊥
IsCall a = Unit {0}

-- and what is seen of it
abbrev pub Answers : Size → Now → Asked → Seen → Now → Type 0
Answers size w (asked.Command command) seen v = Commands size w (change_of command) seen v
Answers size w (asked.Suspend memory at) seen v =
    Commands size w (Suspend at.hart at.address at.opaque memory) seen v
Answers size w asked.Load seen v = Loads w seen v
Answers size w asked.Resume seen v = Resumes size w seen v
Answers size w a seen v = ⊥

-- what is seen of a command that is answered so
abbrev pub seen_of : Result ℕ Refusal → Seen
seen_of (Ok n) = Acked n
seen_of (Err e) = Denied e
