-- Turns of a hart, and calls that are made in its place. Source: docs/BOARD.md; SBI specification 2.0,
-- chapters 3 and 9.
use Rattle.board_model.specs.declared.call_words.CallWords.{CallWords}
use Rattle.std.specs.Prelude.{◌≡◌, ◌⊎◌, ℕ, zero, suc, Bool, true, false, List, slice_set, Option, Some, None}
use Rattle.board_model.specs.Shapes.{Size}
use Rattle.hart.specs.State.{ArchState, put, started as fresh}
use Rattle.hart.specs.declared.Outcome.TheVariants.{Ecall}
use Rattle.hsm.specs.States.{started}
use Rattle.hsm.specs.Calls.{named}
use Rattle.hsm.specs.Views.{listed}
use Rattle.hsm.specs.declared.state.State.{State}
use Rattle.sbi_calls.specs.declared.tables.Seats.{Seats}
use Rattle.sbi_calls.specs.Both.{TableState, IsTable}
use Rattle.sbi_calls.specs.declared.words.Turned.{Turned}
use Rattle.sbi_calls.specs.declared.words.Did.TheVariants.{Idle, Resumed, Next}
use Rattle.sbi_calls.specs.declared.words.Turned.TheVariants.{Made}
use Rattle.turns.specs.Turns.{Moment, moment, TurnOf, Finishes, after_take}
use Rattle.susp.specs.Dozes.{doze_of}
use Rattle.susp.specs.declared.buses.Doze.{Doze}
use Rattle.machine.specs.Machine.{Machine, hart_at}

-- hart h of a machine, with the tables and the memory
abbrev pub moment_of : ℕ → Machine → Moment
moment_of h m = moment m.table (hart_at m h) m.memory

-- the machine whose hart h stands so; its other harts are as they were, and so is its doze
abbrev pub with_moment : ℕ → Machine → Moment → Machine
with_moment h m a =
    record { size = m.size; memory = a.memory; doze = m.doze; harts = slice_set m.harts h a.hart; table = a.table }

-- what hart h did made that of the machine
abbrev pub DoneBy : (Moment → Moment → Type 0) → ℕ → Machine → Machine → Type 0
DoneBy Does h old new = (after : Moment) × Does (moment_of h old) after × (new ≡ with_moment h old after)

-- ---- a board that dozes
-- the hart of a doze begins again as a started hart does: what is pending for it is taken, and the memory, the
-- other harts and what is pending for them stay
abbrev pub resumed : Doze → ℕ → Machine → Machine
resumed d h m =
    record {
      size = m.size;
      memory = m.memory;
      doze = None;
      harts = slice_set m.harts h (fresh (hart_at m h).id d.at.address d.at.opaque);
      table = after_take m.table (hart_at m h).id;
    }

-- a turn of the hart of a doze, which was woken or not: until then it is idle
abbrev pub DozeTurn : Bool → Doze → ℕ → Machine → Machine → Turned → Type 0
DozeTurn false d h old new word = (new ≡ old) × (word ≡ Made Idle)
DozeTurn true d h old new word = (new ≡ resumed d h old) × (word ≡ Made Resumed)

-- ---- a turn of hart h, by the doze of the board where it is that hart's
abbrev pub TurnBy : Option Doze → ℕ → Machine → Machine → Turned → Type 0
TurnBy None h old new word = DoneBy (λ a b. TurnOf old.size a b word) h old new
TurnBy (Some d) h old new word = DozeTurn d.woken d h old new word

abbrev pub MakesTurn : ℕ → Machine → Machine → Turned → Type 0
MakesTurn h old new word = TurnBy (doze_of h old.doze) h old new word

-- so many turns of hart h in a row, of which all but the last said Next, and word is said of the last
abbrev pub MakesRow : ℕ → ℕ → Machine → Machine → Turned → Type 0
MakesRow h zero old new word = ⊥
MakesRow h (suc n) old new word =
    ((n ≡ 0) × MakesTurn h old new word)
    ⊎ ((mid : Machine) × MakesTurn h old mid (Made Next) × MakesRow h n mid new word)

-- ---- a call that is made in the place of a hart
-- the registers of a call: the extension in a7, the function in a6, the arguments in a0 to a2
abbrev pub calling : ArchState → CallWords → ArchState
calling s asked = put (put (put (put (put s 10 asked.a0) 11 asked.a1) 12 asked.a2) 16 asked.fid) 17 asked.eid

-- the call of a hart that then stands as u at an ECALL: none where the hart is not STARTED
pub record CallOf (size : Size) (u : ArchState) (a b : Moment) (called : Option Turned) : Type 0 where
  pub made : listed a.table.states a.hart.id ≡ started
      → (word : Turned) × Finishes size Ecall a.table u b.table b.hart word × (b.memory ≡ a.memory)
      × (called ≡ Some word)
  pub not_started : (listed a.table.states a.hart.id ≡ started → ⊥) → (b ≡ a) × (called ≡ None)

-- with the one seat of all harts
abbrev pub MakesCallAlone : Size → ArchState → ArchState → ArchState → List ℕ → Seats → Seats → Option Turned → Type 0
MakesCallAlone size s u t m before after called = (x : TableState) → IsTable size.harts before x
    → (y : TableState) × CallOf size u (moment x s m) (moment y t m) called × IsTable size.harts after y

-- a look at the state of hart h
abbrev pub SeesAlone : ℕ → ℕ → Seats → Seats → State → Type 0
SeesAlone harts h before after state =
    (x : TableState) → IsTable harts before x → (state ≡ named (listed x.states h)) × IsTable harts after x

-- a call of hart h, which then stands as u at an ECALL: a hart that dozes makes none
abbrev pub CallBy : Option Doze → ℕ → ArchState → Machine → Machine → Option Turned → Type 0
CallBy None h u old new called = DoneBy (λ a b. CallOf old.size u a b called) h old new
CallBy (Some d) h u old new called = (new ≡ old) × (called ≡ None)

-- a call of hart h with these registers
abbrev pub MakesOneCall : ℕ → CallWords → Machine → Machine → Option Turned → Type 0
MakesOneCall h asked old new called =
    CallBy (doze_of h old.doze) h (calling (hart_at old h) asked) old new called
