-- A call that comes to a durable command, made with the store at hand. Source: SBI specification 2.0,
-- chapters 10 and 13; docs/SBI.md.
use Rattle.std.specs.Prelude.{◌≡◌, ℕ, Option, None}
use Rattle.disk.specs.declared.device.Disk.{Ghosts}
use Rattle.disk.specs.declared.device.Lane.{Ghosts as Lanes}
use Rattle.board_model.specs.Shapes.{Size}
use Rattle.hsm.specs.States.{started}
use Rattle.hsm.specs.Views.{listed}
use Rattle.sbi_abi.specs.Calls.{call_of}
use Rattle.store.specs.declared.stores.Store.{Store}
use Rattle.sbi.specs.declared.words.Word.{Word}
use Rattle.sbi.specs.Helds.{HeldIn}
use Rattle.turns.specs.Turns.{Moment}
use Rattle.susp.specs.Dozes.{doze_of}
use Rattle.susp.specs.declared.buses.Bus.{Bus}
use Rattle.susp.specs.declared.buses.Doze.{Doze}
use Rattle.machine.specs.Machine.{Machine, hart_at}
use Rattle.machine.specs.Turns.{moment_of, with_moment}

-- hart h is STARTED, and the board does not doze by it
abbrev pub StandsAtCall : ℕ → Machine → Type 0
StandsAtCall h m = (listed m.table.states (hart_at m h).id ≡ started) × (doze_of h m.doze ≡ None)

-- the memory of a moment, with a doze
abbrev pub bus_at : Moment → Option Doze → Bus
bus_at a doze = record { ram = a.memory; doze = doze }

module _ {D L : Type 0} {g : Ghosts D L} {l : Lanes L} where
  -- the durable call at which its hart stands, by the table of answers: the tables and the memory stay
  abbrev pub HeldOf : Size → Option Doze → Option Doze → Moment → Moment → Store D L g l → Store D L g l → Word
      → Type 0
  HeldOf size doze doze' a b old new word =
      HeldIn size.harts (call_of a.hart) a.hart b.hart a.table (bus_at a doze) (bus_at b doze') old new word
      × (b.table ≡ a.table) × (b.memory ≡ a.memory)

  -- the durable call at which hart h stands, made with a store: it may leave a doze
  abbrev pub MakesCall : ℕ → Machine → Machine → Store D L g l → Store D L g l → Word → Type 0
  MakesCall h m n old new word =
      (doze : Option Doze) × (after : Moment) × HeldOf m.size m.doze doze (moment_of h m) after old new word
      × (n ≡ record (with_moment h m after) { doze = doze })
