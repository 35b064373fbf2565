-- The one history of the bus of a session, and what it has of each hart, of the store and of the console; and the one log of each of its
-- two tables, and what it has of each hart. Source: docs/THREADS.md, "The bus"; docs/TABLES.md, "Words"; docs/CONSOLE.md.
use Rattle.std.specs.Prelude.{◌≡◌, ◌⊎◌, ◌<◌, ◌+◌, ℕ, Bool, false, List, [], ◌∷◌, All, Option, Some, None, length}
use Rattle.board_model.specs.Durable.{Change, Suspend}
use Rattle.board_model.specs.Shapes.{Size}
use Rattle.hsm.specs.Rule.{reading as start_reading, first_word as start_words}
use Rattle.hsm.specs.Words.{HartView}
use Rattle.hsm.specs.declared.view.Action.{Action}
use Rattle.hsm.specs.declared.view.Action.TheVariants.{Looked, Quieted}
use Rattle.hsm.specs.declared.view.Stage.{Stage}
use Rattle.ipi.specs.Ledger.{PendingView, reading as raise_reading, first_word as raise_words}
use Rattle.ipi.specs.declared.view.IpiAction.{IpiAction}
use Rattle.machine.specs.Machine.{Machine, only_first}
use Rattle.sbi_calls.specs.Both.{Known}
use Rattle.store.specs.Lives.{Life}
use Rattle.susp.specs.Sleeps.{AreUnclaimed}
use Rattle.susp.specs.declared.buses.Bus.{Bus}
use Rattle.tallies.specs.Books.{Each, IsPart, part_view, told_by}
use Rattle.tallies.specs.Logs.{Log, IsTrueLog, actions_in, log_places}
use Rattle.tallies.specs.Notes.{hart_notes, numbers}
use Rattle.tallies.specs.declared.view.HartNotes.{HartNotes}
use Rattle.tallies.specs.declared.book_views.PartView.{PartView}
use Rattle.hart_threads.specs.Bused.{AreCalls, HasCalls, HasEnded, HasFailed, IsMoment, IsSaving, IsWaking, Made, Makes, begun_bus, console_part, count_of, part_of_hart, store_part}
use Rattle.hart_threads.specs.Ends.{AreNumberedFrom, IsEnding}
use Rattle.hart_threads.specs.declared.ends.HartEnd.{HartEnd}
use Rattle.hart_threads.specs.LifeEnds.{AllEndAs, EndsAs, IsEndedAs}
use Rattle.hart_threads.specs.declared.bus_turns.BusTurn.{BusTurn}
use Rattle.hart_threads.specs.declared.closing.AfterConsole.{AfterConsole}
use Rattle.hart_threads.specs.declared.closing.AfterConsole.TheVariants.{RunOut, Halt}
use Rattle.board_session.specs.declared.talks.Left.{Left}
use Rattle.board_session.specs.declared.talks.Left.TheVariants as lefts

-- what the harts do once the console has left
abbrev pub harts_after : Left → AfterConsole
harts_after lefts.Quit = Halt
harts_after lefts.EndOfInput = RunOut
harts_after lefts.InputFailed = RunOut
harts_after lefts.Unwritten = Halt

-- what the history has of the hart of that number
abbrev pub took_by : Log BusTurn → ℕ → PartView BusTurn
took_by log h = part_view (part_of_hart h) (told_by (part_of_hart h) log)

-- ---- the tables
-- what a log of a table has of the hart of that number, which stands at that stage: its steps, each at its place
abbrev pub noted_by : {S D : Type 0} → Log D → ℕ → S → List (HartNotes S D)
noted_by log h stage = hart_notes h stage (actions_in h log) (log_places h log) ∷ []

-- what the logs of the hart table and of the pending interrupts have of it
abbrev pub known_by : Log Action → Log IpiAction → ℕ → Stage → Known
known_by starts raises h stage = record { harts = noted_by starts h stage; pairs = noted_by raises h tt }

-- There is one log of all steps of each table of a session, from the power-on on, which left that board: no step was noted by then. Each
-- step is of a hart of the board, and found what the steps before it had left of the words as the power-on left them: in the hart table
-- those that have the hart STARTED which the board has STARTED, and every other one STOPPED; in the other those of no pending interrupt.
pub record HasTables (harts : ℕ) (machine : Machine) (starts : Log Action) (raises : Log IpiAction) : Type 0 where
  pub first : ℕ
  pub only : machine.table.states ≡ only_first harts first
  pub started : IsTrueLog start_reading (start_words first) harts starts
  pub raised : IsTrueLog raise_reading raise_words harts raises

-- the last step of that hart before the look at its end asked whether every other hart was STOPPED, and found so
abbrev pub FoundAlone : ℕ → Log Action → ℕ → Type 0
FoundAlone harts starts hart =
    ∥ ((found last : ℕ) × (before : List Action) × (actions_in hart starts ≡ Looked last ∷ Quieted found ∷ before)
    × AreUnclaimed harts hart found) ∥₁

-- so did the hart of a suspension
abbrev pub SleptAlone : ℕ → Log Action → Change → Type 0
SleptAlone harts starts (Suspend hart address opaque memory) = FoundAlone harts starts hart
SleptAlone harts starts c = Unit {0}

-- where the console was begun, that of each suspension of the journal did
abbrev pub AreAlone : ℕ → Log Action → Option Left → List Change → Type 0
AreAlone harts starts None journal = Unit {0}
AreAlone harts starts (Some left) journal = AllEndAs (SleptAlone harts starts) journal

-- ---- the bus
-- There is one history of the bus of a session. Its turns made what the bus was at the end, one after another, of the memory that the
-- power-on left. Each is of a hart, of the store or of the console. Directly after each durable call of a hart the store looked for that
-- very call, and at no other time. The store's leave the bus as it was. The console's wake a board that dozes, and there are as many as it
-- was told. A reset or a suspension of the journal has one moment in this history: a hart had just made the call that asked for it, and with
-- that call the life ended. So has one that is in doubt, whose hart was answered -1 there. A suspension is of that hart, and carries the
-- memory of that moment.
pub record IsHistory (size : Size) (memory : List ℕ) (journal : List Change) (doubt : Option Change) (woken : ℕ) (log : Log BusTurn) : Type 0 where
  pub left : Bus
  pub made : Makes log (begun_bus memory) left
  pub of : Each (λ e. e.0 < size.harts + 2) log
  pub calls : AreCalls None log
  pub saves : Each (λ t. IsSaving t.1) (told_by store_part log)
  pub wakes : Each (λ t. IsWaking t.1) (told_by console_part log)
  pub often : woken ≡ count_of (told_by console_part log)
  pub ended : AllEndAs (IsMoment HasEnded size log (begun_bus memory)) journal
  pub doubted : (c : Change) → doubt ≡ Some c → EndsAs (IsMoment HasFailed size log (begun_bus memory)) c

-- Each hart of that board had a loop, and there is an end of each, from hart 0 on. It went from where the power-on left it by just the
-- turns that its loop made, and what the history has of it is what those turns did with the bus. What the logs of the two tables have of it
-- is what those turns did there, and the look at its end, and nothing else. It made all the turns that each hart is given, or a hart ended
-- the life by a command that was acknowledged, or the console had left so that the harts are halted. Where the console was not begun there
-- is no end of any.
abbrev pub AreDriven : ℕ → Machine → ℕ → Log BusTurn → Log Action → Log IpiAction → Option Left → List HartEnd → Type 0
AreDriven harts machine turns log starts raises None ends = ends ≡ []
AreDriven harts machine turns log starts raises (Some left) ends =
    (length ends ≡ harts) × AreNumberedFrom 0 ends
    × All (λ e. (stage : Stage) × IsEnding machine turns false (harts_after left) (took_by log e.hart.id)
    (known_by starts raises e.hart.id stage) e) ends

-- there is one such history, and one such log of each table, and they are those of the harts; a board that sleeps on its disk was found
-- with every other hart STOPPED
abbrev pub HasHistory : Size → Machine → ℕ → List Change → Option Change → ℕ → Option Left → List HartEnd → Type 0
HasHistory size machine turns journal doubt woken left ends =
    (log : Log BusTurn) × (starts : Log Action) × (raises : Log IpiAction)
    × AreDriven size.harts machine turns log starts raises left ends × HasTables size.harts machine starts raises
    × AreAlone machine.size.harts starts left journal
    × ∥ IsHistory size machine.memory journal doubt woken log ∥₁

-- a life in which no reset and no suspension was asked for
abbrev pub IsUnended : Life → Type 0
IsUnended life = IsEndedAs (λ c. ⊥) (λ c. ⊥) life

-- ---- while its parts come back
-- a part is one of these
abbrev pub IsOneOf : {V : Type 0} → V → List V → Type 0
IsOneOf d [] = ⊥
IsOneOf d (p ∷ ps) = (p ≡ d) ⊎ IsOneOf d ps

-- what the seats of that hart know is among these, and it is of that hart alone
abbrev pub IsAmong : List HartView → List PendingView → ℕ → Known → Type 0
IsAmong starts raises h k =
    (numbers k.harts ≡ h ∷ []) × (numbers k.pairs ≡ h ∷ []) × Each (λ v. IsOneOf v starts) k.harts
    × Each (λ v. IsOneOf v raises) k.pairs

-- a loop ended so whose part is one of these, and what its hart's seats know is among these
abbrev pub EndsWith : Machine → ℕ → Bool → AfterConsole → List (PartView BusTurn) → List HartView → List PendingView → HartEnd
    → Type 0
EndsWith machine turns gated parting parts starts raises e =
    (d : PartView BusTurn) × (later : Known) × IsOneOf d parts × IsAmong starts raises e.hart.id later
    × IsEnding machine turns gated parting d later e

-- the history ended, with these parts of it: the store's, the console's, and others
pub record EndsHistory (size : Size) (memory : List ℕ) (log : Log BusTurn) (store console : PartView BusTurn)
    (parts : List (PartView BusTurn)) : Type 0 where
  pub left : Bus
  pub made : Made log (begun_bus memory) left
  pub calls : HasCalls log
  pub told : Each (IsPart log) (console ∷ store ∷ parts)
  pub of : Each (λ e. e.0 < size.harts + 2) log
