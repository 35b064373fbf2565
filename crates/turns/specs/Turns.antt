-- One turn of a hart. Source: docs/BOARD.md, "A turn of a hart"; SBI specification 2.0, chapter 9.
use Rattle.std.specs.Prelude.{◌≡◌, ◌⊎◌, ℕ, Bool, true, false, List, [], ◌∷◌, if◌then◌else◌}
use Rattle.board_model.specs.Shapes.{Size}
use Rattle.hart.specs.State.{ArchState, started as fresh}
use Rattle.hart.specs.Means.{Steps}
use Rattle.hart.specs.declared.Outcome.{Outcome}
use Rattle.hart.specs.declared.Outcome.TheVariants as outcomes
use Rattle.hsm.specs.Words.{HartView}
use Rattle.hsm.specs.declared.view.Stage.TheVariants.{Out, Running, Suspended}
use Rattle.hsm.specs.Rule.{stands}
use Rattle.hsm.specs.States.{HartState, stopped, start_pending, started, suspended}
use Rattle.hsm.specs.Views.{listed}
use Rattle.ipi.specs.Pairs.{Sits}
use Rattle.ipi.specs.Views.{row_of, pairs_without}
use Rattle.sbi_abi.specs.Calls.{call_of}
use Rattle.sbi_calls.specs.declared.tables.Seats.{Seats}
use Rattle.sbi_calls.specs.Both.{TableState, IsTable, views, pair_crew}
use Rattle.sbi_calls.specs.Answers.{answer, with_state, Ends}
use Rattle.sbi_calls.specs.declared.words.Turned.{Turned}
use Rattle.sbi_calls.specs.declared.words.Did.TheVariants as dids
use Rattle.sbi_calls.specs.declared.words.Turned.TheVariants.{Made}
use Rattle.turns.specs.declared.readies.Ready.{Ready}
use Rattle.turns.specs.declared.readies.Ready.TheVariants as readies

-- ---- between two turns
-- the hart has not entered, or it is STARTED with nothing in flight, or SUSPENDED
abbrev pub RestsAt : ℕ → List HartView → Type 0
RestsAt by vs = stands by Out vs ⊎ (stands by Running vs ⊎ stands by Suspended vs)

abbrev pub Rests : ℕ → Seats → Type 0
Rests by s = RestsAt by (views s) × Sits by (pair_crew s)

-- what the hart is about to do says where it stands
abbrev pub RestsAs : ℕ → Ready → Seats → Type 0
RestsAs by (readies.Steps pending) s = stands by Running (views s) × Sits by (pair_crew s)
RestsAs by readies.Idle s = Rests by s
RestsAs by readies.Woke s = Rests by s
RestsAs by (readies.Enters a o) s = Rests by s

-- ---- before the step
abbrev pub has_true : List Bool → Bool
has_true [] = false
has_true (b ∷ bs) = if b then true else has_true bs

-- an interrupt is pending for the hart
abbrev pub has_pending : ℕ → List (List Bool) → Bool
has_pending by pairs = has_true (row_of pairs by)

-- the hart's pending interrupts are taken
abbrev pub after_take : TableState → ℕ → TableState
after_take t by = record t { pairs = pairs_without by t.pairs }

-- what a turn comes to before the step, and what the tables then are
pub record Begun : Type 0 where
  pub ready : Ready
  pub table : TableState

abbrev pub woken_turn : Bool → ℕ → TableState → Begun
woken_turn true by t = record { ready = readies.Woke; table = with_state t by started }
woken_turn false by t = record { ready = readies.Idle; table = t }

-- a STOPPED hart is idle; a pending one enters, and its interrupts are taken; a suspended one wakes where an
-- interrupt is pending, which stays
abbrev pub begun_by : ℕ → TableState → HartState → Begun
begun_by by t stopped = record { ready = readies.Idle; table = t }
begun_by by t (start_pending a o) =
    record { ready = readies.Enters a o; table = after_take (with_state t by started) by }
begun_by by t started = record { ready = readies.Steps (has_pending by t.pairs); table = t }
begun_by by t suspended = woken_turn (has_pending by t.pairs) by t

abbrev pub turn_begun : ℕ → TableState → Begun
turn_begun by t = begun_by by t (listed t.states by)

-- with the one seat of all harts: a look, a take, and what follows where the hart has not entered or is
-- SUSPENDED
abbrev pub LooksAlone : ℕ → ℕ → Seats → Seats → Bool → Type 0
LooksAlone harts by s s' pending =
    (t : TableState) → IsTable harts s t → (pending ≡ has_pending by t.pairs) × IsTable harts s' t

abbrev pub TakesAlone : ℕ → ℕ → Seats → Seats → Type 0
TakesAlone harts by s s' = (t : TableState) → IsTable harts s t → IsTable harts s' (after_take t by)

abbrev pub IsOutside : HartState → Type 0
IsOutside stopped = ⊥
IsOutside (start_pending a o) = Unit {0}
IsOutside started = ⊥
IsOutside suspended = ⊥

abbrev pub EntersAlone : ℕ → ℕ → Seats → Seats → Ready → Type 0
EntersAlone harts by s s' ready =
    (t : TableState) → IsTable harts s t → IsOutside (listed t.states by)
    → (ready ≡ (turn_begun by t).ready) × IsTable harts s' (turn_begun by t).table

abbrev pub WakesAlone : ℕ → ℕ → Seats → Seats → Ready → Type 0
WakesAlone harts by s s' ready =
    (t : TableState) → IsTable harts s t → listed t.states by ≡ suspended
    → (ready ≡ (turn_begun by t).ready) × IsTable harts s' (turn_begun by t).table

abbrev pub BeginsAlone : ℕ → ℕ → Seats → Seats → Ready → Type 0
BeginsAlone harts by s s' ready =
    (t : TableState) → IsTable harts s t → (ready ≡ (turn_begun by t).ready) × IsTable harts s' (turn_begun by t).table

-- ---- after the step
-- the hart u and the tables x, once the step answered that, become v and y
abbrev pub Finishes : Size → Outcome → TableState → ArchState → TableState → ArchState → Turned → Type 0
Finishes size outcomes.Next x u y v word = (y ≡ x) × (v ≡ u) × (word ≡ Made dids.Next)
Finishes size outcomes.TakePending x u y v word = (y ≡ after_take x u.id) × (v ≡ u) × (word ≡ Made dids.Next)
Finishes size outcomes.Ecall x u y v word =
    Ends (answer size u.id (call_of u) x).ending u v word × (y ≡ (answer size u.id (call_of u) x).table)

abbrev pub FinishesAlone : Size → Outcome → ArchState → ArchState → Seats → Seats → Turned → Type 0
FinishesAlone size outcome u v s s' word =
    (x : TableState) → IsTable size.harts s x
    → (y : TableState) × Finishes size outcome x u y v word × IsTable size.harts s' y

-- ---- a whole turn
-- a hart, its board's tables and the memory, at one moment
pub record Moment : Type 0 where
  pub table : TableState
  pub hart : ArchState
  pub memory : List ℕ

abbrev pub moment : TableState → ArchState → List ℕ → Moment
moment t s m = record { table = t; hart = s; memory = m }

-- by what the turn came to before the step
abbrev pub TurnAs : Size → Ready → TableState → Moment → Moment → Turned → Type 0
TurnAs size readies.Idle x a b word = (b ≡ record a { table = x }) × (word ≡ Made dids.Idle)
TurnAs size readies.Woke x a b word = (b ≡ record a { table = x }) × (word ≡ Made dids.Woke)
TurnAs size (readies.Enters site opaque) x a b word =
    (b ≡ record a { table = x; hart = fresh a.hart.id site opaque }) × (word ≡ Made dids.Entered)
TurnAs size (readies.Steps pending) x a b word =
    (u : ArchState) × (outcome : Outcome) × Steps pending a.hart a.memory u b.memory outcome
    × Finishes size outcome x u b.table b.hart word

-- what a turn of the hart makes of a moment, and what is said of it
abbrev pub TurnOf : Size → Moment → Moment → Turned → Type 0
TurnOf size a b word = TurnAs size (turn_begun a.hart.id a.table).ready (turn_begun a.hart.id a.table).table a b word

-- with the one seat of all harts
abbrev pub TurnsAlone : Size → ArchState → List ℕ → ArchState → List ℕ → Seats → Seats → Turned → Type 0
TurnsAlone size s m t n before after word = (x : TableState) → IsTable size.harts before x
    → (y : TableState) × TurnOf size (moment x s m) (moment y t n) word × IsTable size.harts after y
