-- A system within a number of switches: its states, each with what is left there.
use Rattle.std.proofs.Common.{ap, drop, refl, subst, sym}
use Rattle.std.specs.Prelude.{◌≡◌, ◌⊎◌, ℕ, suc, Bool, true, false, List, ◌∷◌, Option, None, Some}
use Rattle.state_space.specs.Bounded.{Budget, IsFreeBy, PaysBy, Richer}
use Rattle.state_space.specs.Listed.{ListsAll, ListsNext}
use Rattle.state_space.specs.Systems.{Rules, Stay}
use Rattle.state_space.specs.declared.found.Successors.{Successors}

pub record Switched (State : Type 0) : Type 0 where
  pub state : State
  pub budget : Budget

-- `by event` is the process whose turn the event of that number is, if it is one; from a process that waits a switch is free.
abbrev pub within_rules : {State : Type 0} → Rules State → (ℕ → Option ℕ) → (ℕ → State → Type 0) → ℕ → Rules (Switched State)
within_rules rules by waits switches = record {
  start = record { state = rules.start; budget = record { last = None; left = switches } };
  steps = λ n b c. rules.steps n b.state c.state × PaysBy waits (by n) b.state b.budget c.budget;
  goes = rules.goes;
  settles = λ b c. rules.settles b.state c.state × Richer c.budget b.budget;
  keeps = λ b. rules.keeps b.state;
  is_end = λ b. rules.is_end b.state;
}

-- ---- rows
-- 0 where no process made the last turn, else one more than its number
abbrev pub last_number : Option ℕ → ℕ
last_number None = 0
last_number (Some p) = suc p

abbrev pub row_within : Budget → List ℕ → List ℕ
row_within w row = last_number w.last ∷ w.left ∷ row

abbrev pub StandsWithin : {State : Type 0} → (List ℕ → State → Type 0) → List ℕ → Switched State → Type 0
StandsWithin stands row b = (inner : List ℕ) × (row ≡ row_within b.budget inner) × stands inner b.state

-- no process made the last turn, and no switch is left
abbrev none_left : Budget
none_left = record { last = None; left = 0 }

-- what the rows stand for of a system within switches stays, and so does what those of the system itself do
pub within_inner : {State : Type 0} (old new : List ℕ → State → Type 0) → Stay (StandsWithin old) (StandsWithin new) → Stay old new
within_inner {State} old new stays r b c has =
    let both = stays (row_within none_left r) (record { state = b; budget = none_left }) (record { state = c; budget = none_left }) (r, refl, has) in (
      λ at. let got = both.0 (r, refl, at) in subst (λ (row : List ℕ). new row c) (ap (λ (row : List ℕ). drop 2 row) (sym got.1)) got.2,
      λ at. let got = both.1 (r, refl, at) in subst (λ (row : List ℕ). old row c) (ap (λ (row : List ℕ). drop 2 row) (sym got.1)) got.2,
    )

-- ---- what a successor costs
-- What is said of switches in a state: each turn is free; else a process made the last turn, and does not wait.
pub record IsSaid {State : Type 0} (waits : ℕ → State → Type 0) (free : Bool) (w : Budget) (b : State) : Type 0 where
  pub all : free ≡ true → (p : ℕ) → IsFreeBy waits w.last p b
  pub some : free ≡ false → (g : ℕ) × (w.last ≡ Some g) × (waits g b → ⊥)

-- A turn of the process that made the last one, or after one that waits, costs nothing; another costs a switch.
abbrev pub IsPriced : Bool → Budget → Option ℕ → Budget → Type 0
IsPriced free w None u = u ≡ record { last = None; left = w.left }
IsPriced free w (Some p) u =
    (u.last ≡ Some p)
    × ((((free ≡ true) ⊎ (w.last ≡ Some p)) × (u.left ≡ w.left))
    ⊎ ((free ≡ false) × (w.last ≡ Some p → ⊥) × (w.left ≡ suc u.left)))

-- of the first so many successors, each that can be paid is listed, and no other
abbrev pub AreListed : (ℕ → Option ℕ) → Bool → Budget → Successors → Successors → ℕ → Type 0
AreListed by free w = ListsAll (λ event u. IsPriced free w (by event) u) row_within

-- the next one was listed, or can't be paid
abbrev pub IsTold : (ℕ → Option ℕ) → Bool → Budget → Successors → Successors → Successors → ℕ → Type 0
IsTold by free w = ListsNext (λ event u. IsPriced free w (by event) u) row_within
