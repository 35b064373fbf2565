-- What a call adds to the view of its seat, what it answers, and what it is with the one seat of all harts.
use Rattle.std.specs.Prelude.{◌≡◌, ◌≢◌, ◌⊎◌, ℕ, ◌+◌, ◌*◌, Bool, true, false, List, [], ◌∷◌, ◌==◌, if◌then◌else◌, MatchBool}
use Rattle.std.specs.Int.{bit_at}
use Rattle.tallies.specs.Notes.{numbers, HasNoted}
use Rattle.hsm.specs.declared.view.Stage.{Stage}
use Rattle.hsm.specs.declared.view.Stage.TheVariants.{Out, Ready, Addressed, Loaded, Running, Claiming, Half, Stored, Suspended}
use Rattle.hsm.specs.declared.view.Action.TheVariants.{Claimed, Wrote, Armed, Looked, Read, Entered}
use Rattle.hsm.specs.Words.{HartView, HartSeatView}
use Rattle.hsm.specs.Rule.{stands}
use Rattle.hsm.specs.States.{HartState, stopped, start_pending, started, suspended, IsStarted, Shows}
use Rattle.hsm.specs.declared.state.State.{State}
use Rattle.hsm.specs.declared.state.State.TheVariants as codes

-- ---- states
-- the number of a state (SBI specification 2.0, chapter HSM)
abbrev pub code_of : State → ℕ
code_of codes.Started = 0
code_of codes.Stopped = 1
code_of codes.StartPending = 2
code_of codes.Suspended = 4

-- the state of a hart, by the first word
abbrev pub state_in_word : ℕ → ℕ → State
state_in_word h found =
    if bit_at found h == 0 then codes.Stopped
    else (if bit_at found (16 + h) == 0 then codes.StartPending
    else (if bit_at found (24 + h) == 0 then codes.Started else codes.Suspended))

-- a state without what a pending start is for
abbrev pub named : HartState → State
named stopped = codes.Stopped
named (start_pending a o) = codes.StartPending
named started = codes.Started
named suspended = codes.Suspended

-- ---- where a hart of the seat stands
abbrev pub stage_of : ℕ → List HartView → Stage
stage_of h [] = Out
stage_of h (v ∷ vs) = if v.hart == h then v.stage else stage_of h vs

-- the seat has the hart, at whatever stage
abbrev pub Sits : ℕ → List HartView → Type 0
Sits h vs = (st : Stage) × stands h st vs

-- the seat has the same harts, and each stands where it stood
pub record KeepsAll (vs vs' : List HartView) : Type 0 where
  pub harts : numbers vs' ≡ numbers vs
  pub stages : (k : ℕ) (st : Stage) → stands k st vs → stands k st vs'

-- the seat has the same harts, and all but one stand where they stood
pub record KeepsOthers (h : ℕ) (vs vs' : List HartView) : Type 0 where
  pub harts : numbers vs' ≡ numbers vs
  pub stages : (k : ℕ) (st : Stage) → k ≢ h → stands k st vs → stands k st vs'

-- Freshness: the status of a hart of the seat itself
pub record IsOwnStatus (h : ℕ) (vs : List HartView) (x : State) : Type 0 where
  pub started : IsStarted h vs → x ≡ codes.Started
  pub suspended : stands h Suspended vs → x ≡ codes.Suspended
  pub outside : stands h Out vs → (x ≡ codes.Stopped) ⊎ (x ≡ codes.StartPending)

-- where a hart between calls stands, by its status
abbrev pub StandsBy : State → ℕ → List HartView → Type 0
StandsBy codes.Started h vs = IsStarted h vs
StandsBy codes.Suspended h vs = stands h Suspended vs
StandsBy codes.Stopped h vs = stands h Out vs
StandsBy codes.StartPending h vs = stands h Out vs

-- ---- each call's own steps
-- a start that found the target claimed makes the claim alone
abbrev pub IsRefused : ℕ → ℕ → ℕ → ℕ → ℕ → List HartView → List HartView → Type 0
IsRefused h t a o found vs vs' = HasNoted h Running (Claimed t a o found) vs vs'

-- one that found it unclaimed stores both arguments, and then arms it
abbrev pub IsGranted : ℕ → ℕ → ℕ → ℕ → ℕ → List HartView → List HartView → Type 0
IsGranted h t a o found vs vs' = (one two three : List HartView)
    × HasNoted h (Claiming t a o) (Claimed t a o found) vs one
    × HasNoted h (Half t a o) (Wrote (1 + 2 * t) a) one two
    × HasNoted h (Stored t a o) (Wrote (2 + 2 * t) o) two three
    × HasNoted h Running (Armed t) three vs'

-- the answer is true exactly where the claim found the target unclaimed
abbrev pub Starts : ℕ → ℕ → ℕ → ℕ → List HartView → Bool → List HartView → Type 0
Starts h t a o vs answer vs' =
    (found : ℕ) × (answer ≡ (bit_at found t == 0))
    × MatchBool answer (IsGranted h t a o found vs vs') (IsRefused h t a o found vs vs')

-- the word has the hart armed and not entered
abbrev pub is_ready : ℕ → ℕ → Bool
is_ready h found = if bit_at found (8 + h) == 1 then bit_at found (16 + h) == 0 else false

-- an entry: a look, two loads and the step, which notes what stands beside it
abbrev pub EntersAs : ℕ → List HartView → ℕ → ℕ → List ℕ → List HartView → Type 0
EntersAs h vs a o beside vs' = (found : ℕ) × (one two three : List HartView) × (is_ready h found ≡ true)
    × HasNoted h Ready (Looked found) vs one
    × HasNoted h (Addressed a) (Read (1 + 2 * h) a) one two
    × HasNoted h (Loaded a o) (Read (2 + 2 * h) o) two three
    × HasNoted h Running (Entered h a o beside) three vs'

abbrev pub FindsNone : ℕ → List HartView → List HartView → Type 0
FindsNone h vs vs' = (found : ℕ) × (is_ready h found ≡ false) × HasNoted h Out (Looked found) vs vs'

-- ---- with the one seat of all harts
-- Whatever the states are, the answer is right of them, and the states after the call are those that follow.
abbrev pub ActsAlone : ℕ → HartSeatView → HartSeatView → ((ℕ → HartState) → Type 0)
    → ((ℕ → HartState) → ℕ → HartState) → Type 0
ActsAlone harts c c' Answers next =
    (states : ℕ → HartState) → Shows harts c states → Answers states × Shows harts c' (next states)
