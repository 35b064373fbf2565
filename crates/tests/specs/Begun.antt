-- The store of a board that was just powered on fresh.
use Rattle.std.specs.Prelude.{◌≡◌, [], None}
use Rattle.board_model.specs.Shapes.{Size}
use Rattle.disk.specs.declared.device.Disk.{Ghosts}
use Rattle.disk.specs.declared.device.Lane.{Ghosts as Lanes}
use Rattle.store.specs.Views.{size_of_store, journal_of, doubt_of}
use Rattle.store.specs.declared.stores.Store.{Store}

module _ {D L : Type 0} {g : Ghosts D L} {l : Lanes L} where
  -- it is of that shape, and no command was issued nor is in doubt
  abbrev pub IsBegun : Size → Store D L g l → Type 0
  IsBegun size store = (size_of_store store ≡ size) × (journal_of store ≡ []) × (doubt_of store ≡ None)
