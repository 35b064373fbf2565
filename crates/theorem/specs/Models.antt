-- A board beside its model, over which every order of its harts is explored: what the model keeps of it.
-- Source: docs/BOARD.md; docs/DURABLE.md.
use Rattle.std.specs.Prelude.{◌≡◌, ◌⊎◌, ℕ, Bool, List, length, Option, None, Some, is_some}
use Rattle.board_model.specs.Durable.{DurableState, Image}
use Rattle.board_model.specs.Shapes.{Size}
use Rattle.board_model.specs.declared.boot_mode.BootMode.{BootMode}
use Rattle.board_model.specs.declared.boot_mode.BootMode.TheVariants as modes
use Rattle.disk.specs.Facts.{Content}
use Rattle.disk.specs.declared.device.Disk.{Ghosts}
use Rattle.disk.specs.declared.device.Lane.{Ghosts as Lanes}
use Rattle.machine.specs.Held.{AreNumbered}
use Rattle.machine.specs.Machine.{Machine}
use Rattle.model_board.specs.Boards.{Standing, Board, On, Off, image_of}
use Rattle.model_board.specs.Events.{Event, Turn, Refused, Does}
use Rattle.model_board.specs.Held.{after_reset}
use Rattle.sbi.specs.declared.words.LifeEnd.{LifeEnd}
use Rattle.sbi.specs.declared.words.LifeEnd.TheVariants as ends
use Rattle.sbi.specs.declared.words.Word.{Word}
use Rattle.sbi.specs.declared.words.Word.TheVariants.{Goes, Over}
use Rattle.state_space.specs.Orders.{Leads}
use Rattle.store.specs.Lives.{Life, now_of}
use Rattle.store.specs.Standing.{StandsFor}
use Rattle.store.specs.Views.{size_of_store, life_of}
use Rattle.store.specs.declared.stores.Store.{Store}

-- of an image all but its serial, by which no power-on tells two images apart
abbrev pub image_kept : Option Image → Option Image
image_kept None = None
image_kept (Some i) = Some (image_of i.hart i.address i.opaque i.memory)

-- of a durable state the reset reason and the image
abbrev pub kept_of : DurableState → Standing
kept_of s = record { reason = s.reason; image = image_kept s.image }

-- a board that is on: it refuses each command while one is in doubt
abbrev pub shown_on : Machine → Life → Board
shown_on m life = On (record { machine = m; stands = kept_of (now_of life); down = is_some life.doubt })

-- a board whose life a call of a hart ended
abbrev pub shown_over : LifeEnd → Standing → Board
shown_over ends.Asleep s = Off s
shown_over (ends.Reset kind) s = after_reset kind s

-- a board after a turn of which that is said
abbrev pub shown_after : Word → Machine → Life → Board
shown_after (Goes did) m life = shown_on m life
shown_after (Over end) m life = shown_over end (kept_of (now_of life))

-- a turn of the hart, or one of it whose sleep or reset the store refuses
abbrev pub IsTurnOf : ℕ → Event → Type 0
IsTurnOf h e = (e ≡ Turn h) ⊎ ((down : Bool) × (e ≡ Refused h down))

-- the operator's rule: `resume` where an image stands, else `fresh`
abbrev pub rule_by : Option Image → BootMode
rule_by None = modes.Fresh
rule_by (Some i) = modes.Resume

-- the machine of a board of that size, each of whose harts has its number
pub record IsOfBoard (board : Size) (m : Machine) : Type 0 where
  pub size : m.size ≡ board
  pub long : length m.harts ≡ board.harts
  pub numbered : AreNumbered m.harts

-- What a crash leaves of a board that is on, or is in its midst of a turn: it stands for a state, and some events lead from the
-- board to one that is off with what that state keeps.
module _ {D L : Type 0} {g : Ghosts D L} {l : Lanes L} where
  abbrev pub IsLeftBy : Machine → Store D L g l → Content → Type 0
  IsLeftBy m store c =
      (s : DurableState) × StandsFor c (size_of_store store) s
      × ((payload : List ℕ) → Leads (Does payload (size_of_store store)) (shown_on m (life_of store)) (Off (kept_of s)))
