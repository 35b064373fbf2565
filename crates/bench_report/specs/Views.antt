-- What the layers below say of the disk in memory and of a store over it, as the bench reads it.
use Rattle.std.specs.Prelude.{◌≡◌, ℕ, Option, false, length}
use Rattle.board_model.specs.Durable.{DurableState, Change}
use Rattle.board_model.specs.Shapes.{Size}
use Rattle.disk.specs.Facts.{Facts}
use Rattle.disk.specs.FaultState.{FaultState}
use Rattle.disk.specs.declared.device.ArmedFault.{ArmedFault}
use Rattle.simdisk.specs.declared.SimDisk.{SimDisk}
use Rattle.simdisk.specs.declared.SimLane.{SimLane}
use Rattle.simdisk.specs.contracts.device.SimDiskDisk.TheImpl as sim_disk
use Rattle.simdisk.specs.contracts.lane.SimLaneLane.TheImpl as sim_lane
use Rattle.simdisk.specs.contracts.logged.SimDiskLogged.TheImpl as sim_logged
use Rattle.disk.specs.WriteLog.{WriteLog}
use Rattle.board.specs.Views as words
use Rattle.board.specs.declared.Board as boards
use Rattle.machine.specs.Machine.{Machine}
use Rattle.store.specs.declared.Store as any
use Rattle.store.specs.Lives.{Life, now_of}
use Rattle.store.specs.Views as stores

-- a store over a disk in memory
abbrev pub SimStore : Type 0
SimStore = any.Store SimDisk SimLane sim_disk.ghosts sim_lane.ghosts

-- a board over a disk in memory
abbrev pub SimBoard : Type 0
SimBoard = boards.Board SimDisk SimLane sim_disk.ghosts sim_lane.ghosts

-- its store, and its memory and harts
abbrev pub store_in : SimBoard → SimStore
store_in board = words.store_of board

abbrev pub machine_in : SimBoard → Machine
machine_in board = words.machine_of board

-- the disk that it holds
abbrev pub disk_in : SimBoard → SimDisk
disk_in board = stores.device_of (words.store_of board)

-- the facts of a disk, and why it failed
abbrev pub facts : SimDisk → Facts
facts disk = sim_disk.ghosts.facts disk

abbrev pub fault_state : SimDisk → FaultState
fault_state disk = sim_disk.ghosts.fault_state disk

-- that fault is armed on it, and each call of it is still to come
abbrev pub arms : SimDisk → ArmedFault → Type 0
arms disk fault = sim_disk.ghosts.arms disk fault

-- its record of writes and syncs
abbrev pub sim_log_of : SimDisk → WriteLog
sim_log_of disk = sim_logged.ghosts.log disk

-- the same of the disk that a store holds
abbrev pub store_facts : SimStore → Facts
store_facts store = stores.disk_of store

abbrev pub store_fault_state : SimStore → FaultState
store_fault_state store = stores.fault_state_of store

abbrev pub store_arms : SimStore → ArmedFault → Type 0
store_arms store fault = stores.arms_of store fault

-- the size of the board that a store's disk was formatted for
abbrev pub store_size : SimStore → Size
store_size store = stores.size_of_store store

-- the durable state now, without a command in doubt, and the command in doubt
abbrev pub store_now : SimStore → DurableState
store_now store = stores.now_state store

abbrev pub store_doubt : SimStore → Option Change
store_doubt store = stores.doubt_of store

-- a life that goes on: the durable state with what was acknowledged, how many commands that were, and the one
-- in doubt
abbrev pub IsLife : Life → DurableState → ℕ → Option Change → Type 0
IsLife life s count doubt =
    (now_of life ≡ s) × (length life.journal ≡ count) × (life.doubt ≡ doubt) × (life.over ≡ false)

abbrev pub IsAs : SimStore → DurableState → ℕ → Option Change → Type 0
IsAs store s count doubt = IsLife (stores.life_of store) s count doubt
