-- What a contract sees of a store that is shared, of one that is not, and of a bus that is shared.
use Rattle.disk.specs.declared.device.Disk.{Ghosts}
use Rattle.disk.specs.declared.device.Lane.{Ghosts as Lanes}
use Rattle.store.specs.declared.stores.Store.{Store}
use Rattle.tallies.specs.declared.journal.Journal.{Ghosts as Named}
use Rattle.std.specs.Prelude.{ℕ, List}
use Rattle.board_model.specs.declared.durable.Entry.{Entry}
use Rattle.tallies.specs.Logs.{Log}
use Rattle.tallies.specs.declared.book_views.PartView.{PartView}
use Rattle.susp.specs.declared.buses.Bus.{Bus}
use Rattle.hart_threads.specs.declared.bus_turns.BusTurn.{BusTurn}
use Rattle.hart_threads.specs.declared.buses.SharedBus.{SharedBus}
use Rattle.hart_threads.specs.declared.shared_store.SharedStore.{SharedStore}
use Rattle.hart_threads.specs.declared.threaded.Threaded.{Ghosts as Living}
use Rattle.hart_threads.specs.declared.unshared.Unshared.{Unshared}

module _ {D J L : Type 0} {g : Ghosts D L} {j : Named J} {t : Living J} {l : Lanes L} where
  abbrev pub store_in : SharedStore D J L g l t j → Store D L g l
  store_in kept = kept.store

  abbrev pub inside : Unshared D J L g l t j → Store D L g l
  inside whole = whole.store

  -- the parts that were not handed out, or are back
  abbrev pub parts_with : Unshared D J L g l t j → List (PartView Entry)
  parts_with whole = whole.keeper.parts

  -- when its receipts were made
  abbrev pub moments_in : SharedStore D J L g l t j → List ℕ
  moments_in kept = kept.moments.at

  abbrev pub moments_with : Unshared D J L g l t j → List ℕ
  moments_with whole = whole.moments.at

module _ {J : Type 0} {j : Named J} where
  abbrev pub bus_in : SharedBus J j → Bus
  bus_in kept = kept.bus

  -- what was done with it, and the parts of that history that are not handed out
  abbrev pub bus_log : SharedBus J j → Log BusTurn
  bus_log kept = kept.keeper.log

  abbrev pub bus_parts : SharedBus J j → List (PartView BusTurn)
  bus_parts kept = kept.keeper.parts
