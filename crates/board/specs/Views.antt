-- What a clause sees of a board: the store of its durable state, and its memory and harts.
use Rattle.disk.specs.declared.device.Disk.{Ghosts}
use Rattle.disk.specs.declared.device.Lane.{Ghosts as Lanes}
use Rattle.store.specs.declared.Store.{Store}
use Rattle.machine.specs.Machine.{Machine}
use Rattle.board.specs.declared.powered.Board.{Board}

module _ {D L : Type 0} {g : Ghosts D L} {l : Lanes L} where
  abbrev pub store_of : Board D L g l → Store D L g l
  store_of b = b.store

  abbrev pub machine_of : Board D L g l → Machine
  machine_of b = b.machine
