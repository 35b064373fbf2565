-- What a contract sees of a store.
use Rattle.std.specs.Prelude.{◌≡◌, ℕ, Bool, List, Option, None, Some, length, map, option_map}
use Rattle.board_model.specs.Durable.{DurableState, Change, after}
use Rattle.board_model.specs.Shapes.{Size}
use Rattle.disk.specs.declared.device.ArmedFault.{ArmedFault}
use Rattle.disk.specs.declared.device.Disk.{Ghosts}
use Rattle.disk.specs.declared.device.Lane.{Ghosts as Lanes}
use Rattle.disk.specs.Facts.{Facts}
use Rattle.disk.specs.FaultState.{FaultState}
use Rattle.store.specs.Standing.{state_of, memory_in}
use Rattle.board_model.specs.Views.{change_in}
use Rattle.store.specs.Lives.{Life, now_of}
use Rattle.store.specs.Answers.{StoreView}
use Rattle.store.specs.declared.stores.Store.{Store}

module _ {D L : Type 0} {g : Ghosts D L} {l : Lanes L} where
  -- the disk that it holds
  abbrev pub device_of : Store D L g l → D
  device_of store = store.disk

  -- the facts of its disk, and why that failed
  abbrev pub disk_of : Store D L g l → Facts
  disk_of store = g.facts store.disk

  abbrev pub fault_state_of : Store D L g l → FaultState
  fault_state_of store = g.fault_state store.disk

  -- that fault is armed on its disk, and each call of it is still to come
  abbrev pub arms_of : Store D L g l → ArmedFault → Type 0
  arms_of store fault = g.arms store.disk fault

  abbrev pub size_of_store : Store D L g l → Size
  size_of_store store = store.shape

  abbrev pub life_of : Store D L g l → Life
  life_of store = record {
    found = state_of store.shape store.opened (g.facts store.disk).content;
    journal =
        map (λ e. change_in e (memory_in store.shape store.current (g.facts store.disk).content)) store.journal;
    doubt = option_map (λ x. change_in x.entry (memory_in store.shape x.next (g.facts store.disk).content)) store.doubt;
    over = store.over;
  }

  abbrev pub found_state : Store D L g l → DurableState
  found_state store = (life_of store).found

  abbrev pub journal_of : Store D L g l → List Change
  journal_of store = (life_of store).journal

  abbrev pub now_state : Store D L g l → DurableState
  now_state store = now_of (life_of store)

  abbrev pub receipts : Store D L g l → ℕ
  receipts store = length (life_of store).journal

  abbrev pub doubt_of : Store D L g l → Option Change
  doubt_of store = (life_of store).doubt

  -- how often its disk had failed when it was opened
  abbrev pub failures_at_open : Store D L g l → ℕ
  failures_at_open store = store.failures_at_open

  -- whether memory was refused to a suspension of this life
  abbrev pub was_refused_memory : Store D L g l → Bool
  was_refused_memory store = store.refused_memory

  -- it is up, at that state
  abbrev pub Stands : Store D L g l → DurableState → Type 0
  Stands store s = (doubt_of store ≡ None) × (s ≡ now_state store)

  -- it is down: a command is in doubt, which makes t of s
  abbrev pub Doubts : Store D L g l → DurableState → DurableState → Type 0
  Doubts store s t = (c : Change) × (doubt_of store ≡ Some c) × (s ≡ now_state store) × (t ≡ after s c)

  -- all of it
  abbrev pub view_of : Store D L g l → StoreView
  view_of store = record {
    disk = disk_of store;
    fault_state = fault_state_of store;
    size = size_of_store store;
    life = life_of store;
    failures_at_open = failures_at_open store;
  }
