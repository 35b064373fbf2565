-- The history of a bus: what was done with it in each hold of it, one hold after another. Source: docs/THREADS.md, "The bus".
use Rattle.std.specs.Prelude.{◌≡◌, ◌⊎◌, ◌+◌, ℕ, Bool, true, false, List, [], ◌∷◌, ◌++◌, Option, Some, None, Err, IfSome}
use Rattle.board_model.specs.Durable.{Change, Reset, Suspend}
use Rattle.board_model.specs.Shapes.{Size}
use Rattle.hart.specs.State.{ArchState, answered}
use Rattle.sbi_abi.specs.Answers.{error_of}
use Rattle.sbi_abi.specs.Calls.{call_of}
use Rattle.sbi_abi.specs.declared.ret.SbiError.TheVariants.{Failed}
use Rattle.sbi_calls.specs.Words.{is_doze}
use Rattle.sbi.specs.declared.resets.ResetType.{ResetType}
use Rattle.sbi.specs.declared.words.LifeEnd.{LifeEnd}
use Rattle.sbi.specs.declared.words.LifeEnd.TheVariants as ends
use Rattle.sbi.specs.declared.words.Word.{Word}
use Rattle.sbi.specs.declared.words.Word.TheVariants.{Goes, Over}
use Rattle.susp.specs.Dozes.{can_wake, after_wake}
use Rattle.susp.specs.declared.buses.Bus.{Bus}
use Rattle.susp.specs.declared.buses.Doze.{Doze}
use Rattle.tallies.specs.Books.{Each, part_view, told_after}
use Rattle.tallies.specs.Logs.{Log}
use Rattle.tallies.specs.declared.book_views.PartView.{PartView}
use Rattle.turns.specs.Own.{StepsIf}
use Rattle.turns.specs.declared.readies.Ready.{Ready}
use Rattle.store.specs.Lives.{Life}
use Rattle.hart_threads.specs.Called.{AsksReset, AsksSleep}
use Rattle.hart_threads.specs.Heard.{one_more}
use Rattle.hart_threads.specs.Looks.{doze_by}
use Rattle.hart_threads.specs.LifeEnds.{IsEndedAs}
use Rattle.hart_threads.specs.declared.bus_turns.BusTurn.{BusTurn}
use Rattle.hart_threads.specs.declared.bus_turns.HeldCall.{HeldCall}

-- one hold of the bus without a durable call: as it was found, and as it was left
abbrev pub bus_turn : Bus → Bus → BusTurn
bus_turn found left = record { found = found; left = left; call = None }

-- a durable call: the hart that asks, that hart as it was answered, and what its turn tells
abbrev pub held_call : ArchState → ArchState → Word → HeldCall
held_call s t word = record { asked = s; answered = t; word = word }

-- a hold of the bus for that call
abbrev pub call_turn : HeldCall → Bus → Bus → BusTurn
call_turn call found left = record { found = found; left = left; call = Some call }

-- the bus that a boot leaves: its board does not doze
abbrev pub begun_bus : List ℕ → Bus
begun_bus memory = record { ram = memory; doze = None }

-- ---- a history, the newest first
-- its turns make the bus n of m, one after another: each found what the one before it left
abbrev pub Makes : Log BusTurn → Bus → Bus → Type 0
Makes [] m n = n ≡ m
Makes (e ∷ l) m n = (n ≡ e.1.left) × Makes l m e.1.found

abbrev pub Made : Log BusTurn → Bus → Bus → Type 0
Made l m n = ∥ Makes l m n ∥₁

-- ---- its parts: the first is the store's, the second the console's, and then there is one for each hart
abbrev pub store_part : ℕ
store_part = 0

abbrev pub console_part : ℕ
console_part = 1

abbrev pub part_of_hart : ℕ → ℕ
part_of_hart h = h + 2

-- the part of a hart that has not had the bus yet
abbrev pub fresh_part : ℕ → PartView BusTurn
fresh_part h = part_view (part_of_hart h) []

-- ---- the durable calls of a history
-- Each call is two turns: one of the hart that asks, and directly after it one of the store, which looked for that very call. No other
-- turn has a call. Where there is one in the first place, its look was gone over, and the turn of its hart comes next.
abbrev pub AreCalls : Option HeldCall → Log BusTurn → Type 0
AreCalls None [] = Unit {0}
AreCalls (Some call) [] = ⊥
AreCalls None (e ∷ l) = IfSome e.1.call (λ call. e.0 ≡ store_part) × AreCalls e.1.call l
AreCalls (Some call) (e ∷ l) = (e.0 ≡ part_of_hart call.asked.id) × (e.1.call ≡ Some call) × AreCalls None l

abbrev pub HasCalls : Log BusTurn → Type 0
HasCalls log = ∥ AreCalls None log ∥₁

-- how a call was answered that was to end the life so: it did
abbrev pub HasEnded : LifeEnd → HeldCall → Type 0
HasEnded end call = call.word ≡ Over end

-- or it was answered -1
abbrev pub HasFailed : LifeEnd → HeldCall → Type 0
HasFailed end call = call.answered ≡ answered call.asked (error_of (Err Failed)) 0

-- This call, which found that memory, asked for that command and was answered so: for a reset for that reason, or for that suspension to
-- disk, of the hart that asked and with the memory that it found. No call asks for another command.
abbrev pub AsksSo : (LifeEnd → HeldCall → Type 0) → Size → Change → HeldCall → List ℕ → Type 0
AsksSo Answered size (Reset cause) call found =
    (type : ResetType) × AsksReset (call_of call.asked) type cause × Answered (ends.Reset type) call
AsksSo Answered size (Suspend hart address opaque memory) call found =
    (call.asked.id ≡ hart) × AsksSleep size (call_of call.asked) address opaque × Answered ends.Asleep call × (memory ≡ found)
AsksSo Answered size c call found = ⊥

-- The moment of a command that ends a life: a hart's call asked for it and was answered so, and directly after it the store looked for that
-- very call. What the call found is the memory that the turns up to there had made.
abbrev pub IsMoment : (LifeEnd → HeldCall → Type 0) → Size → Log BusTurn → Bus → Change → Type 0
IsMoment Answered size log begun c =
    ∥ ((later earlier : Log BusTurn) × (look turn : BusTurn) × (call : HeldCall) × (left : Bus)
    × (log ≡ later ++ (store_part, look) ∷ (part_of_hart call.asked.id, turn) ∷ earlier)
    × (look.call ≡ Some call) × (turn.call ≡ Some call) × AsksSo Answered size c call left.ram
    × Makes ((part_of_hart call.asked.id, turn) ∷ earlier) begun left) ∥₁

-- ---- one turn more of a part
abbrev pub Takes : BusTurn → PartView BusTurn → PartView BusTurn → Type 0
Takes turn d d' = (n : ℕ) × (d' ≡ told_after n turn d)

-- which took the bus from the first to the second
abbrev pub TakesBus : Bus → Bus → PartView BusTurn → PartView BusTurn → Type 0
TakesBus found left d d' = Takes (bus_turn found left) d d'

-- ---- what was done in a hold
-- a step of a hart, which found and left that memory: the doze stays
abbrev pub StepsBus : PartView BusTurn → PartView BusTurn → List ℕ → List ℕ → Type 0
StepsBus d d' found left =
    (before : Bus) × (behind : Bus) × TakesBus before behind d d' × (found ≡ before.ram) × (left ≡ behind.ram)
    × (behind.doze ≡ before.doze)

-- a turn that began so: it had the bus for its step, or not at all
abbrev pub TurnsBus : Ready → PartView BusTurn → PartView BusTurn → List ℕ → List ℕ → Type 0
TurnsBus ready d d' found left = StepsIf ready (StepsBus d d' found left) (d' ≡ d)

-- a durable call: a board that then dozes has its doze, and nothing else changes
abbrev pub CalledIf : Bool → Bus → Bus → Type 0
CalledIf true found left = left.ram ≡ found.ram
CalledIf false found left = left ≡ found

abbrev pub IsCalled : Word → Bus → Bus → Type 0
IsCalled (Goes did) found left = CalledIf (is_doze did) found left
IsCalled (Over end) found left = left ≡ found

-- It is noted as the call of that hart, which was answered so; only a call of the store is (`SharedStore::call`). And the hart keeps a copy
-- of the doze.
abbrev pub CallsBus : ArchState → ArchState → Word → Option Doze → PartView BusTurn → PartView BusTurn → Type 0
CallsBus s t word doze d d' =
    (found : Bus) × (left : Bus) × Takes (call_turn (held_call s t word) found left) d d' × IsCalled word found left
    × (doze ≡ doze_by word left.doze)

-- the store looked at the memory, to keep it
abbrev pub IsSaving : BusTurn → Type 0
IsSaving t = t.left ≡ t.found

-- the console woke a board that dozed
abbrev pub IsWaking : BusTurn → Type 0
IsWaking t = (can_wake t.found.doze ≡ true) × (t.left ≡ record t.found { doze = after_wake t.found.doze })

-- ---- what a part was told
-- so often, in a count that begins anew at 2^64
abbrev pub count_of : List (ℕ × BusTurn) → ℕ
count_of [] = 0
count_of (t ∷ ts) = one_more (count_of ts)

-- the console's: each time that it woke a board, and so often
abbrev pub AreWakes : ℕ → PartView BusTurn → Type 0
AreWakes n d = (d.who ≡ console_part) × Each (λ t. IsWaking t.1) d.told × (n ≡ count_of d.told)

-- the console has such a part
abbrev pub HoldsWakes : Option (PartView BusTurn) → ℕ → Type 0
HoldsWakes None n = ⊥
HoldsWakes (Some d) n = AreWakes n d

-- in this turn it looked for a call, which asked for that command and was answered so
abbrev pub LooksFor : (LifeEnd → HeldCall → Type 0) → Size → Change → BusTurn → Type 0
LooksFor Answered size c t = (call : HeldCall) × (t.call ≡ Some call) × AsksSo Answered size c call t.found.ram

-- in one of these it did
abbrev pub FoundSo : (LifeEnd → HeldCall → Type 0) → Size → List (ℕ × BusTurn) → Change → Type 0
FoundSo Answered size [] c = ⊥
FoundSo Answered size (t ∷ ts) c = LooksFor Answered size c t.1 ⊎ FoundSo Answered size ts c

abbrev pub WasTold : (LifeEnd → HeldCall → Type 0) → Size → List (ℕ × BusTurn) → Change → Type 0
WasTold Answered size told c = ∥ FoundSo Answered size told c ∥₁

-- such a life
abbrev pub IsSavedIn : Size → List (ℕ × BusTurn) → Life → Type 0
IsSavedIn size told life = IsEndedAs (WasTold HasEnded size told) (WasTold HasFailed size told) life

-- The store's: each time that it looked. It looked for the very call of a hart that asked for a command which ends its life: for a reset or
-- a suspension that was acknowledged, the call with which the life ended, and for one in doubt, a call that was answered -1. A suspension
-- carries the memory that it then found.
abbrev pub SavedBy : Size → Life → PartView BusTurn → Type 0
SavedBy size life d = (d.who ≡ store_part) × Each (λ t. IsSaving t.1) d.told × IsSavedIn size d.told life

abbrev pub AreSaved : Size → Life → PartView BusTurn → Type 0
AreSaved size life d = ∥ SavedBy size life d ∥₁

-- what it was told
abbrev pub part_in : Option (PartView BusTurn) → PartView BusTurn
part_in None = part_view 0 []
part_in (Some d) = d
