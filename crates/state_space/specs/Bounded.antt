-- Orders with a bounded number of switches from one process to another, counted as preemptions are: a switch from a process that waits is
-- free.
use Rattle.std.specs.Prelude.{◌≡◌, ◌⊎◌, ℕ, zero, suc, ◌<◌, ◌≤◌, List, [], ◌∷◌, Option, Some, None}
use Rattle.state_space.specs.Orders.{Leads, Only, Chain}

-- The process that made the last turn, if a switch from it may count, and how many switches are left.
pub record Budget : Type 0 where
  pub last : Option ℕ
  pub left : ℕ

-- So many turns of one process lead from one state to another.
abbrev pub Turns : {State Event : Type 0} → (Event → State → State → Type 0) → (ℕ → Event) → ℕ → ℕ → State → State → Type 0
Turns does turn p zero from to = to ≡ from
Turns {State} does turn p (suc n) from to = (mid : State) × does (turn p) from mid × Turns does turn p n mid to

-- A process waits where some turns of its own, at most so many, lead back to the same state.
abbrev pub Waits : {State Event : Type 0} → (Event → State → State → Type 0) → (ℕ → Event) → ℕ → ℕ → State → Type 0
Waits does turn most p state = (n : ℕ) × (n < most) × Turns does turn p (suc n) state state

-- After the turn of that process, if there was one, a turn of p costs no switch. `waits g state`: g waits there.
abbrev pub IsFreeBy : {State : Type 0} → (ℕ → State → Type 0) → Option ℕ → ℕ → State → Type 0
IsFreeBy waits None p state = Unit {0}
IsFreeBy waits (Some g) p state = (g ≡ p) ⊎ waits g state

abbrev pub IsFree : {State Event : Type 0} → (Event → State → State → Type 0) → (ℕ → Event) → ℕ → Option ℕ → ℕ → State → Type 0
IsFree does turn most = IsFreeBy (Waits does turn most)

-- What is left after an event that is a turn of that process, or of none. An event of none is free, and so is what follows it.
abbrev pub PaysBy : {State : Type 0} → (ℕ → State → Type 0) → Option ℕ → State → Budget → Budget → Type 0
PaysBy waits None state w v = v ≡ record { last = None; left = w.left }
PaysBy waits (Some p) state w v =
    (v.last ≡ Some p) × ((IsFreeBy waits w.last p state × (v.left ≡ w.left)) ⊎ (w.left ≡ suc v.left))

abbrev pub Pays : {State Event : Type 0} → (Event → State → State → Type 0) → (ℕ → Event) → ℕ → Option ℕ → State → Budget → Budget → Type 0
Pays does turn most = PaysBy (Waits does turn most)

-- A list of events leads from one state to another, and pays what it costs. `by event` is the process whose turn it is.
abbrev pub Within : {State Event : Type 0} → (Event → State → State → Type 0) → (ℕ → Event) → (Event → Option ℕ) → ℕ → List Event → State → Budget → State → Budget → Type 0
Within does turn by most [] from w to v = (to ≡ from) × (v ≡ w)
Within {State} does turn by most (event ∷ events) from w to v =
    (mid : State) × (m : Budget) × does event from mid × Pays does turn most (by event) from w m
    × Within does turn by most events mid m to v

-- as many switches are left, or more
abbrev pub Richer : Budget → Budget → Type 0
Richer v w = (v.last ≡ w.last) × (w.left ≤ v.left)

-- What is known of local turns beside `Reduction`: where an event leads to one state before a local turn and after it, that state is off,
-- and stays so by turns, of which none is local.
pub record Switching {State Event : Type 0} (does : Event → State → State → Type 0) (turn : ℕ → Event) (keeps : Event → State → Type 0) (local : ℕ → State → State → Type 0) (by : Event → Option ℕ) (off : State → Type 0) : Type 0 where
  pub whose : (p : ℕ) → by (turn p) ≡ Some p
  pub stays : (p : ℕ) (b c : State) → off b → does (turn p) b c → off c
  pub is_on : (p : ℕ) (b c : State) → local p b c → off b → ⊥
  pub swaps : (p : ℕ) (e : Event) (b c d : State) → local p b c → (e ≡ turn p → ⊥) → keeps e c → does e b d → (does e c d × off d) ⊎ ((last : State) × does e c last × local p d last)

-- The set of states with what is left at each is closed but for local turns: each event that can be paid keeps the map, and after it some
-- local turns lead back into the set, with as much left.
abbrev pub IsClosedWithin : {State Event : Type 0} → (Event → State → State → Type 0) → (ℕ → Event) → (Event → Option ℕ) → ℕ → (Event → State → Type 0) → (ℕ → State → State → Type 0) → (State → Budget → Type 0) → Type 0
IsClosedWithin {State} {Event} does turn by most keeps local set =
    (b : State) (w : Budget) → set b w → (e : Event) (v : Budget) → Pays does turn most (by e) b w v → keeps e b
    × ((c : State) → does e b c → (n : ℕ) × (d : State) × (u : Budget) × Chain local n c d × set d u × Richer u v)

-- What such a set says of a state, and of what is left there.
pub record MeetsWithin {State Event : Type 0} (does : Event → State → State → Type 0) (turn : ℕ → Event) (by : Event → Option ℕ) (most : ℕ) (goes : Event → Type 0) (ends : State → Type 0) (keeps : Event → State → Type 0) (set : State → Budget → Type 0) (state : State) (w : Budget) : Type 0 where
  pub kept : (e : Event) (v : Budget) → Pays does turn most (by e) state w v → keeps e state
  pub joins : (x : State) × Leads (Only goes does) state x × ((v : Budget) × set x v)
  pub ended : ends state → (v : Budget) × set state v
