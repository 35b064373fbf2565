-- The state of each hart as a function of the view of a seat of all harts, so that a board may keep the
-- states as a value.
use Rattle.std.specs.Prelude.{◌≡◌, ℕ, List, [], ◌∷◌, ◌==◌, nat_lt, if◌then◌else◌, Option, Some, None, length, map, get_or}
use Rattle.tallies.specs.Seats.{numbers_from}
use Rattle.hsm.specs.declared.view.Stage.{Stage}
use Rattle.hsm.specs.declared.view.Action.{Action}
use Rattle.hsm.specs.declared.view.Action.TheVariants.{Claimed}
use Rattle.hsm.specs.Words.{HartView, HartSeatView}
use Rattle.hsm.specs.Rule.{claim_of, entry_of, did}
use Rattle.hsm.specs.States.{HartState, stopped, start_pending, started, suspended, is_running, is_suspended, Shows}
use Rattle.hsm.specs.Calls.{stage_of}

abbrev pub or_else : {B : Type 0} → Option B → Option B → Option B
or_else None other = other
or_else (Some b) other = Some b

-- the first that f finds in a list
abbrev pub first_of : {A B : Type 0} → (A → Option B) → List A → Option B
first_of f [] = None
first_of f (x ∷ xs) = or_else (f x) (first_of f xs)

-- what a claim of the hart was for, where more claims than entries are for it
abbrev pub open_by : ℕ → HartSeatView → Action → Option (ℕ × ℕ)
open_by h c (Claimed t a o found) =
    if t == h then (if nat_lt (did (entry_of h a o) c) (did (claim_of h a o) c) then Some (a, o) else None) else None
open_by h c _ = None

-- the start that the hart has not entered yet
abbrev pub open_start : ℕ → HartSeatView → Option (ℕ × ℕ)
open_start h c = first_of (λ (v : HartView). first_of (open_by h c) v.actions) c.harts

abbrev pub outside : Option (ℕ × ℕ) → HartState
outside None = stopped
outside (Some p) = start_pending p.0 p.1

abbrev pub state_by_stage : Stage → Option (ℕ × ℕ) → HartState
state_by_stage st start = if is_running st then started else (if is_suspended st then suspended else outside start)

-- the state of a hart
abbrev pub state_in : HartSeatView → ℕ → HartState
state_in c h = state_by_stage (stage_of h c.harts) (open_start h c)

-- the states of all harts, in the order of their numbers
abbrev pub states_in : ℕ → HartSeatView → List HartState
states_in harts c = map (state_in c) (numbers_from 0 harts)

-- the state of a hart in a list of them; a hart that the board lacks is stopped
abbrev pub listed : List HartState → ℕ → HartState
listed states h = get_or states h stopped

-- the view of a seat of all harts shows these states
abbrev pub AreStates : ℕ → HartSeatView → List HartState → Type 0
AreStates harts c states = (length states ≡ harts) × Shows harts c (listed states)
