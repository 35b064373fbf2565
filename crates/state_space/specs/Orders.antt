-- Every order of some processes' turns and of other events, and a set of states that need not hold all orders to speak of all.
use Rattle.std.specs.Prelude.{◌≡◌, ◌⊎◌, ℕ, zero, suc, List, [], ◌∷◌}

-- A list of events leads from one state to another. Nothing says that an event can happen at a state: only what it leads to where it does.
abbrev pub Runs : {State Event : Type 0} → (Event → State → State → Type 0) → List Event → State → State → Type 0
Runs does [] from to = to ≡ from
Runs {State} {Event} does (event ∷ events) from to = (mid : State) × does event from mid × Runs does events mid to

-- some list of events does
abbrev pub Leads : {State Event : Type 0} → (Event → State → State → Type 0) → State → State → Type 0
Leads {State} {Event} does from to = (events : List Event) × Runs does events from to

-- events of that kind alone
abbrev pub Only : {State Event : Type 0} → (Event → Type 0) → (Event → State → State → Type 0) → Event → State → State → Type 0
Only kind does event from to = kind event × does event from to

-- So many local turns lead from one state to another, each of any process.
abbrev pub Chain : {State : Type 0} → (ℕ → State → State → Type 0) → ℕ → State → State → Type 0
Chain local zero from to = to ≡ from
Chain {State} local (suc n) from to = (process : ℕ) × (mid : State) × local process from mid × Chain local n mid to

-- What is known of local turns. `turn` is the event of a process; `keeps event state`: what the event touches at this state, it may, by a
-- fixed map; `local process state next`: this turn of the process touches only what the map gives to it alone.
pub record Reduction {State Event : Type 0} (does : Event → State → State → Type 0) (turn : ℕ → Event) (ends : State → Type 0) (keeps : Event → State → Type 0) (local : ℕ → State → State → Type 0) : Type 0 where
  -- a local turn is a turn, the only one of its process at this state, and it keeps the map
  pub turns : (p : ℕ) (b c : State) → local p b c → does (turn p) b c
  pub only : (p : ℕ) (b c d : State) → local p b c → does (turn p) b d → d ≡ c
  pub own : (p : ℕ) (b c : State) → local p b c → keeps (turn p) b
  -- where there is one, the state is at no end
  pub moves : (p : ℕ) (b c : State) → local p b c → ends b → ⊥
  pub decides : (p : ℕ) (e : Event) → (e ≡ turn p) ⊎ (e ≡ turn p → ⊥)
  -- another event that keeps the map after it keeps it before it too
  pub before : (p : ℕ) (e : Event) (b c : State) → local p b c → (e ≡ turn p → ⊥) → keeps e c → keeps e b
  -- and does the same there: it leads to one state either way, as a reset does, or the local turn can follow it
  pub swaps : (p : ℕ) (e : Event) (b c d : State) → local p b c → (e ≡ turn p → ⊥) → keeps e c → does e b d → does e c d ⊎ ((last : State) × does e c last × local p d last)

-- The set is closed but for local turns: at each of its states each event keeps the map, and after it some local turns lead back into the
-- set.
abbrev pub IsClosed : {State Event : Type 0} → (Event → State → State → Type 0) → (Event → State → Type 0) → (ℕ → State → State → Type 0) → (State → Type 0) → Type 0
IsClosed {State} {Event} does keeps local set =
    (b : State) → set b → (e : Event) → keeps e b
    × ((c : State) → does e b c → (n : ℕ) × (d : State) × Chain local n c d × set d)

-- What a set says of a state: each event keeps the map there, some events by which a state goes on lead from it into the set, and it is in
-- the set if it is at an end.
pub record Meets {State Event : Type 0} (does : Event → State → State → Type 0) (goes : Event → Type 0) (ends : State → Type 0) (keeps : Event → State → Type 0) (set : State → Type 0) (state : State) : Type 0 where
  pub kept : (e : Event) → keeps e state
  pub joins : (x : State) × Leads (Only goes does) state x × set x
  pub ended : ends state → set state

-- Some events by which a state goes on lead from it to an end. Failures are no such events: by a power cut any board comes to what its boot
-- comes to.
abbrev pub CanEnd : {State Event : Type 0} → (Event → State → State → Type 0) → (Event → Type 0) → (State → Type 0) → State → Type 0
CanEnd {State} does goes ends state = (last : State) × Leads (Only goes does) state last × ends last
