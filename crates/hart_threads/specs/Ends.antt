-- How a hart's loop ended, and where the hart then stood. Source: docs/THREADS.md, "The end of a loop"; SBI specification
-- 2.0, chapter HSM.
use Rattle.std.specs.Prelude.{◌≡◌, ℕ, suc, Bool, true, List, [], ◌∷◌, Option, Some, None}
use Rattle.board_model.specs.declared.durable.Entry.{Entry}
use Rattle.hsm.specs.Calls.{KeepsAll, StandsBy, stage_of, state_in_word}
use Rattle.hsm.specs.declared.state.State.{State}
use Rattle.hsm.specs.declared.view.Action.TheVariants.{Looked}
use Rattle.machine.specs.Machine.{Machine}
use Rattle.sbi_calls.specs.Both.{Known}
use Rattle.sbi_calls.specs.Steps.{OneStep}
use Rattle.tallies.specs.declared.book_views.PartView.{PartView}
use Rattle.hart_threads.specs.declared.bus_turns.BusTurn.{BusTurn}
use Rattle.hart_threads.specs.Begun.{BeginsAs}
use Rattle.hart_threads.specs.Threads.{Seated, LoopOnce, is_end}
use Rattle.hart_threads.specs.declared.closing.AfterConsole.{AfterConsole}
use Rattle.hart_threads.specs.declared.closing.AfterConsole.TheVariants.{Halt}
use Rattle.hart_threads.specs.declared.ends.HartEnd.{HartEnd}
use Rattle.hart_threads.specs.declared.loops.Why.{Why}
use Rattle.hart_threads.specs.declared.loops.Why.TheVariants as whys

-- what ended all loops: a command of another hart, which ends a life; or else the console, which halted the harts when it left
abbrev pub IsClosedBy : AfterConsole → Option (ℕ × Entry) → Type 0
IsClosedBy parting (Some t) = is_end t.1 ≡ true
IsClosedBy parting None = parting ≡ Halt

-- why a loop may end, by the command that ended the life where one ended it: its own hart's; something ended all loops; the gate, where
-- it may; or with the turns that each hart is given
abbrev pub EndsBy : ℕ → Bool → AfterConsole → ℕ → Option (ℕ × Entry) → Why → Type 0
EndsBy turns gated parting made over whys.Life = (t : ℕ × Entry) × (over ≡ Some t) × (is_end t.1 ≡ true)
EndsBy turns gated parting made over whys.Closed = IsClosedBy parting over
EndsBy turns gated parting made over whys.Gate = (gated ≡ true) × (over ≡ None)
EndsBy turns gated parting made over whys.Turns = (made ≡ turns) × (over ≡ None)

-- the command that ended its life, where it ended the loop: its own, of which it has the receipt, or the one that closed it
abbrev pub over_of : Why → Option (ℕ × Entry) → Option (ℕ × Entry) → Option (ℕ × Entry)
over_of whys.Life told closed = told
over_of whys.Closed told closed = closed
over_of whys.Gate told closed = None
over_of whys.Turns told closed = None

-- the receipt that its hart was told: that of the command with which it ended the life itself
abbrev pub receipt_by : Why → Option (ℕ × Entry) → Option (ℕ × Entry)
receipt_by whys.Life over = over
receipt_by whys.Closed over = None
receipt_by whys.Gate over = None
receipt_by whys.Turns over = None

abbrev pub own_receipt : HartEnd → Option (ℕ × Entry)
own_receipt e = receipt_by e.why e.over

-- ---- how it came there
-- nothing is said of its gate
abbrev pub AnyAnswer : ℕ → Bool → Type 0
AnyAnswer turn answer = Unit {0}

abbrev pub AnyWord : ℕ → Type 0
AnyWord turn = Unit {0}

-- A hart of the board went from where the boot left it to where it stands by its own turns, just so many, one after
-- another; and its loop ended so.
abbrev pub HasGone : Machine → ℕ → ℕ → Seated → Why → Option (ℕ × Entry) → Type 0
HasGone m turns made b why told =
    (a : Seated) × BeginsAs m b.hart.id a × LoopOnce m.size AnyAnswer AnyWord turns made a b why told

-- the state that one look more tells of the hart, which stands there, and what its seats know after that look
abbrev pub IsStateOf : State → ℕ → Known → Known → Type 0
IsStateOf state h k later =
    (found : ℕ) × (state ≡ state_in_word h found) × OneStep h (stage_of h k.harts) (Looked found) k later
    × KeepsAll k.harts later.harts × StandsBy state h later.harts

-- it is told of a hart that has gone so, with that part of the history of the bus: its registers, its state, and its copy of its doze;
-- and the receipt that it was told. Its last look was after its turns, and then its seats know just that.
abbrev pub IsOfHart : Machine → ℕ → PartView BusTurn → Known → HartEnd → Type 0
IsOfHart m turns took later e =
    (b : Seated) × HasGone m turns e.made b e.why (own_receipt e) × (b.took ≡ took)
    × IsStateOf e.state b.hart.id b.known later × (e.hart ≡ b.hart) × (e.doze ≡ b.doze)

-- they are of the harts from that number on, one after another
abbrev pub AreNumberedFrom : ℕ → List HartEnd → Type 0
AreNumberedFrom first [] = Unit {0}
AreNumberedFrom first (e ∷ es) = (e.hart.id ≡ first) × AreNumberedFrom (suc first) es

-- It ended for such a reason. What is told is of a hart of that board, which made just so many turns since the boot left it, with that
-- part of the history of the bus, and whose seats then know that.
abbrev pub IsEnding : Machine → ℕ → Bool → AfterConsole → PartView BusTurn → Known → HartEnd → Type 0
IsEnding m turns gated parting took later e =
    EndsBy turns gated parting e.made e.over e.why × ∥ IsOfHart m turns took later e ∥₁
