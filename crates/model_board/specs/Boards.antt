-- The model board: a board without the bytes of its disk. Source: docs/BOARD.md.
use Rattle.std.specs.Prelude.{ℕ, Bool, false, List, Option, Some, None}
use Rattle.board_model.specs.Durable.{Image}
use Rattle.board_model.specs.Shapes.{Size}
use Rattle.board_model.specs.declared.durable.Reason.{Reason}
use Rattle.machine.specs.Machine.{Machine, machine_begun, woken}

-- What stands on the disk, of what a power-on asks: the reset reason, and the image where one stands. The boot slot is
-- one, no trial stands, and the serial of an image is left out: no power-on tells two images by it.
pub record Standing : Type 0 where
  pub reason : Reason
  pub image : Option Image

-- A board that is on: its machine, what stood on the disk when the life began, and whether the store is down, so that
-- it refuses each command of this life.
pub record Life : Type 0 where
  pub machine : Machine
  pub stands : Standing
  pub down : Bool

-- A board is on, dozing or not; it is off, and goes on with the next power-on; or it ended by its own shutdown. One that
-- is off holds nothing but what stands on its disk.
pub data Board : Type 0 where
  On : Life → Board
  Off : Standing → Board
  Ended : Standing → Board

abbrev pub standing_of : Board → Standing
standing_of (On l) = l.stands
standing_of (Off s) = s
standing_of (Ended s) = s

-- an image that a suspension makes
abbrev pub image_of : ℕ → ℕ → ℕ → List ℕ → Image
image_of hart address opaque memory =
    record { serial = 0; hart = hart; address = address; opaque = opaque; memory = memory }

-- ---- a power-on by the operator's rule
abbrev pub begun : Machine → Standing → Life
begun m s = record { machine = m; stands = s; down = false }

-- `resume` where an image stands, which is dropped before its hart runs; else `fresh`, with the reason that stands
abbrev pub powered_by : List ℕ → Size → Reason → Option Image → Life
powered_by payload size reason None =
    begun (machine_begun payload reason size) (record { reason = reason; image = None })
powered_by payload size reason (Some i) = begun (woken i size) (record { reason = reason; image = None })

abbrev pub powered : List ℕ → Size → Standing → Life
powered payload size s = powered_by payload size s.reason s.image
