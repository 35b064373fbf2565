-- A system within a number of events of a kind: its states, each with how many of them are left.
use Rattle.std.proofs.Common.{ap, drop, refl, subst, sym}
use Rattle.std.specs.Prelude.{◌≡◌, ℕ, suc, Bool, true, false, List, [], ◌∷◌}
use Rattle.state_space.specs.Listed.{ListsAll, ListsNext}
use Rattle.state_space.specs.Systems.{Rules, Stay}
use Rattle.state_space.specs.declared.found.Successors.{Successors}

-- how many of the events are of that kind
abbrev pub one_more_if : Bool → ℕ → ℕ
one_more_if true n = suc n
one_more_if false n = n

abbrev pub how_many : {Event : Type 0} → (Event → Bool) → List Event → ℕ
how_many counts [] = 0
how_many counts (event ∷ events) = one_more_if (counts event) (how_many counts events)

pub record Counted (State : Type 0) : Type 0 where
  pub state : State
  pub left : ℕ

-- one less is left after an event that counts, and there has to be one; as many after another
abbrev pub Spends : Bool → ℕ → ℕ → Type 0
Spends true left after = left ≡ suc after
Spends false left after = after ≡ left

-- an event leads from one state to another, and what it costs was left
abbrev pub DoesCounted : {State Event : Type 0} → (Event → State → State → Type 0) → (Event → Bool) → Event → Counted State → Counted State → Type 0
DoesCounted does counts event b c = does event b.state c.state × Spends (counts event) b.left c.left

-- a local turn costs nothing
abbrev pub LocalCounted : {State : Type 0} → (ℕ → State → State → Type 0) → ℕ → Counted State → Counted State → Type 0
LocalCounted local process b c = local process b.state c.state × (c.left ≡ b.left)

-- `counts event`: the event of that number counts
abbrev pub counted_rules : {State : Type 0} → Rules State → (ℕ → Bool) → ℕ → Rules (Counted State)
counted_rules rules counts most = record {
  start = record { state = rules.start; left = most };
  steps = DoesCounted rules.steps counts;
  goes = rules.goes;
  settles = λ b c. rules.settles b.state c.state × (c.left ≡ b.left);
  keeps = λ b. rules.keeps b.state;
  is_end = λ b. rules.is_end b.state;
}

-- ---- rows
abbrev pub row_counted : ℕ → List ℕ → List ℕ
row_counted left row = left ∷ row

abbrev pub StandsCounted : {State : Type 0} → (List ℕ → State → Type 0) → List ℕ → Counted State → Type 0
StandsCounted stands row b = (inner : List ℕ) × (row ≡ row_counted b.left inner) × stands inner b.state

-- what the rows stand for of a system whose events are counted stays, and so does what those of the system itself do
pub counted_inner : {State : Type 0} (old new : List ℕ → State → Type 0) → Stay (StandsCounted old) (StandsCounted new) → Stay old new
counted_inner {State} old new stays r b c has =
    let both = stays (row_counted 0 r) (record { state = b; left = 0 }) (record { state = c; left = 0 }) (r, refl, has) in (
      λ at. let got = both.0 (r, refl, at) in subst (λ (row : List ℕ). new row c) (ap (λ (row : List ℕ). drop 1 row) (sym got.1)) got.2,
      λ at. let got = both.1 (r, refl, at) in subst (λ (row : List ℕ). old row c) (ap (λ (row : List ℕ). drop 1 row) (sym got.1)) got.2,
    )

-- of the first so many successors, each for which enough is left is listed, and no other
abbrev pub AreCounted : (ℕ → Bool) → ℕ → Successors → Successors → ℕ → Type 0
AreCounted counts left = ListsAll (λ event. Spends (counts event) left) row_counted

-- the next one was listed, or not enough is left for it
abbrev pub IsCounted : (ℕ → Bool) → ℕ → Successors → Successors → Successors → ℕ → Type 0
IsCounted counts left = ListsNext (λ event. Spends (counts event) left) row_counted
