-- A turn's own steps on the tables, and what it comes to by what they found, whatever the other threads do.
-- Source: docs/BOARD.md, "A turn of a hart"; docs/TABLES.md.
use Rattle.std.specs.Prelude.{◌≡◌, ◌↔◌, ℕ, Bool, true, false, IsTrue, List, [], ◌∷◌, ◌==◌, if◌then◌else◌}
use Rattle.std.specs.Int.{bit_at}
use Rattle.board_model.specs.Shapes.{Size}
use Rattle.hart.specs.State.{ArchState, started as fresh}
use Rattle.hart.specs.Means.{Steps}
use Rattle.hart.specs.declared.Outcome.{Outcome}
use Rattle.hart.specs.declared.Outcome.TheVariants as outcomes
use Rattle.hsm.specs.declared.view.Stage.TheVariants.{Running}
use Rattle.hsm.specs.declared.view.Action.TheVariants.{Looked, Woke, Unquieted}
use Rattle.hsm.specs.Calls.{stage_of, state_in_word, EntersAs, FindsNone}
use Rattle.hsm.specs.declared.state.State.{State as Code}
use Rattle.hsm.specs.declared.state.State.TheVariants as codes
use Rattle.ipi.specs.Ledger.{HasNoted, PendingView}
use Rattle.ipi.specs.declared.view.IpiAction.TheVariants.{Took, Looked as LookedAt}
use Rattle.sbi_calls.specs.Both.{Known}
use Rattle.sbi_calls.specs.Steps.{OneStep, Calls}
use Rattle.sbi_calls.specs.declared.words.Turned.{Turned}
use Rattle.sbi_calls.specs.declared.words.Did.TheVariants as dids
use Rattle.sbi_calls.specs.declared.words.Turned.TheVariants.{Made}
use Rattle.turns.specs.declared.readies.Ready.{Ready}
use Rattle.turns.specs.declared.readies.Ready.TheVariants as readies

-- one look at what is pending for the hart, and whether there was any
abbrev pub LooksOwn : ℕ → Known → Known → Bool → Type 0
LooksOwn by k k' is =
    (k'.harts ≡ k.harts) × (found : ℕ) × HasNoted by (LookedAt found) k.pairs k'.pairs
    × (IsTrue is ↔ ((sender : ℕ) × (bit_at found sender ≡ 1)))

-- one step that takes it
abbrev pub TakesOwn : ℕ → Known → Known → Type 0
TakesOwn by k k' = (k'.harts ≡ k.harts) × (found : ℕ) × HasNoted by (Took found) k.pairs k'.pairs

-- a hart that dozed takes what is pending for it, and ends its quiet
abbrev pub ResumesOwn : ℕ → Known → Known → Type 0
ResumesOwn by k k' = (mid : Known) × TakesOwn by k mid × (found : ℕ) × OneStep by Running (Unquieted found) mid k'

-- ---- before the step
-- where the steps of the hart on pending interrupts stand in the order of all such steps, the newest first
abbrev pub places_of : ℕ → List PendingView → List ℕ
places_of by [] = []
places_of by (v ∷ vs) = if v.hart == by then v.places else places_of by vs

-- A hart that has not entered takes what is pending; then it finds no start that is armed for it, or enters by that start.
-- The entry's step notes what the hart had done to pending interrupts by then, and the take is there: what is sent to the hart
-- once it is STARTED comes after the take.
abbrev pub EntersOwn : ℕ → Known → Known → Ready → Type 0
EntersOwn by k k' readies.Idle =
    (mid : Known) × TakesOwn by k mid × FindsNone by mid.harts k'.harts × (k'.pairs ≡ mid.pairs)
EntersOwn by k k' (readies.Enters a o) =
    (mid : Known) × TakesOwn by k mid × EntersAs by mid.harts a o (places_of by mid.pairs) k'.harts × (k'.pairs ≡ mid.pairs)
EntersOwn by k k' readies.Woke = ⊥
EntersOwn by k k' (readies.Steps pending) = ⊥

-- a suspended one: it looks, and wakes in one step more where something is pending
abbrev pub WakesOwn : ℕ → Known → Known → Ready → Type 0
WakesOwn by k k' readies.Idle = LooksOwn by k k' false
WakesOwn by k k' readies.Woke =
    (mid : Known) × LooksOwn by k mid true × (found : ℕ) × OneStep by Running (Woke found) mid k'
WakesOwn by k k' (readies.Enters a o) = ⊥
WakesOwn by k k' (readies.Steps pending) = ⊥

abbrev pub GoesOwn : ℕ → Code → Known → Known → Ready → Type 0
GoesOwn by codes.Started k k' ready = (pending : Bool) × LooksOwn by k k' pending × (ready ≡ readies.Steps pending)
GoesOwn by codes.Suspended k k' ready = WakesOwn by k k' ready
GoesOwn by codes.Stopped k k' ready = (k' ≡ k) × (ready ≡ readies.Idle)
GoesOwn by codes.StartPending k k' ready = EntersOwn by k k' ready

-- one look at its own state, and what follows by that
abbrev pub BeginsOwn : ℕ → Known → Known → Ready → Type 0
BeginsOwn by k k' ready =
    (found : ℕ) × (mid : Known) × OneStep by (stage_of by k.harts) (Looked found) k mid
    × GoesOwn by (state_in_word by found) mid k' ready

-- ---- after the step
abbrev pub FinishesOwn : Size → Outcome → ArchState → ArchState → Known → Known → Turned → Type 0
FinishesOwn size outcomes.Next u v k k' word = (k' ≡ k) × (v ≡ u) × (word ≡ Made dids.Next)
FinishesOwn size outcomes.TakePending u v k k' word = TakesOwn u.id k k' × (v ≡ u) × (word ≡ Made dids.Next)
FinishesOwn size outcomes.Ecall u v k k' word = Calls size u v k k' word

-- ---- a whole turn
abbrev pub TurnAsOwn : Size → Ready → ArchState → List ℕ → ArchState → List ℕ → Known → Known → Turned → Type 0
TurnAsOwn size readies.Idle s m t n k k' word = (t ≡ s) × (n ≡ m) × (k' ≡ k) × (word ≡ Made dids.Idle)
TurnAsOwn size readies.Woke s m t n k k' word = (t ≡ s) × (n ≡ m) × (k' ≡ k) × (word ≡ Made dids.Woke)
TurnAsOwn size (readies.Enters a o) s m t n k k' word =
    (t ≡ fresh s.id a o) × (n ≡ m) × (k' ≡ k) × (word ≡ Made dids.Entered)
TurnAsOwn size (readies.Steps pending) s m t n k k' word =
    (u : ArchState) × (outcome : Outcome) × Steps pending s m u n outcome × FinishesOwn size outcome u t k k' word

abbrev pub TurnOwn : Size → ArchState → List ℕ → ArchState → List ℕ → Known → Known → Turned → Type 0
TurnOwn size s m t n k k' word =
    (ready : Ready) × (mid : Known) × BeginsOwn s.id k mid ready × TurnAsOwn size ready s m t n mid k' word

-- the first of a turn that steps, and the second of any other
abbrev pub StepsIf : Ready → Type 0 → Type 0 → Type 0
StepsIf (readies.Steps pending) stepped stayed = stepped
StepsIf readies.Idle stepped stayed = stayed
StepsIf readies.Woke stepped stayed = stayed
StepsIf (readies.Enters a o) stepped stayed = stayed
