-- A system of states and events, and what it says of a row that it expands.
use Rattle.std.specs.Prelude.{◌≡◌, ℕ, ◌<◌, List}
use Rattle.state_space.specs.declared.systems.Expansion.{Expansion}
use Rattle.state_space.specs.declared.systems.Expansion.TheVariants.{Goes, Ends, Halts}

-- Where the system starts, before it has settled; what an event makes of a state; by which events a state goes on where nothing fails; what
-- a state settles to; which states keep the system's map; and which are at an end. Where nothing has to settle, a state settles to itself.
pub record Rules (State : Type 0) : Type 1 where
  pub start : State
  pub steps : ℕ → State → State → Type 0
  pub goes : ℕ → Type 0
  pub settles : State → State → Type 0
  pub keeps : State → Type 0
  pub is_end : State → Type 0

-- an event leads from one state to another, which has settled
abbrev pub Moves : {State : Type 0} → Rules State → ℕ → State → State → Type 0
Moves {State} rules event from to = (mid : State) × rules.steps event from mid × rules.settles mid to

-- The rows of so many successors of a state, and their events. Each step of the state has settled into one, and each is of such a step.
pub record IsExpanded {State : Type 0} (rules : Rules State) (stands : List ℕ → State → Type 0) (count : ℕ) (event : ℕ → ℕ) (row : ℕ → List ℕ) (state : State) : Type 0 where
  pub keeps : rules.keeps state
  pub complete : (e : ℕ) (mid : State) → rules.steps e state mid → (i : ℕ) × (to : State) × (i < count) × (event i ≡ e) × rules.settles mid to × stands (row i) to
  pub sound : (i : ℕ) → i < count → (to : State) × Moves rules (event i) state to × stands (row i) to

-- what the rows stand for that stand for something stays
abbrev pub Stay : {State : Type 0} → (List ℕ → State → Type 0) → (List ℕ → State → Type 0) → Type 0
Stay {State} old new = (r : List ℕ) (b c : State) → old r b → (old r c → new r c) × (new r c → old r c)

-- what is said of an end
abbrev pub Says : Expansion → Type 0 → Type 0
Says Goes end = end → ⊥
Says Ends end = end
Says Halts end = Unit {0}

-- nothing is said where the system wants no more of the search
abbrev pub UnlessHalts : Expansion → Type 0 → Type 0
UnlessHalts Halts P = Unit {0}
UnlessHalts said P = P
