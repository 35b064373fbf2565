-- What all ends among the first rows show.
use Rattle.std.proofs.{Common.{◌≡◌, ⊎_elim, ℕ, ◌+◌, ◌<◌, ◌≤◌, List, Option, Some, None, IfSome, subst, arith}, lemmas.Bool.cases_lt}
use Rattle.model_board.specs.Boards.{Board}
use Rattle.state_space.specs.{declared.graph.Graph.Graph, Graphs.{IsEnd, row_at}}
use Rattle.board_space.specs.{Shown.{Shows, IsSame, AllShow}, declared.outcomes.Outcome.Outcome}

module _ (from to : ℕ) (stands : List ℕ → Board → Type 0) (graph : Graph) where
  -- a row that is at no end
  pub show_other : (n : ℕ) (all : Option Outcome) → (IsEnd graph n → ⊥) → AllShow from to stands graph n all → AllShow from to stands graph (n + 1) all
  show_other n None other before = λ k lt end.
      ⊎_elim (λ below. before k below end) (λ last. other (subst (λ (m : ℕ). IsEnd graph m) (is_last k n lt last) end)) (cases_lt k n)
    where
      is_last : (k n : ℕ) → k < n + 1 → n ≤ k → k ≡ n
      is_last k n lt le = omega arith
  show_other n (Some outcome) other before = λ k b lt end has.
      ⊎_elim (λ below. before k b below end has) (λ last. absurd (other (subst (λ (m : ℕ). IsEnd graph m) (is_last k n lt last) end))) (cases_lt k n)
    where
      is_last : (k n : ℕ) → k < n + 1 → n ≤ k → k ≡ n
      is_last k n lt le = omega arith

  -- an end that shows what those before it show, where there are any
  pub show_next : (n : ℕ) (all : Option Outcome) (outcome : Outcome) → IfSome all (λ first. IsSame first outcome) → ((b : Board) → stands (row_at graph n) b → Shows from to outcome b) → AllShow from to stands graph n all → AllShow from to stands graph (n + 1) (Some outcome)
  show_next n None outcome same here before = λ k b lt end has.
      ⊎_elim (λ below. absurd (before k below end)) (λ last. here b (subst (λ (m : ℕ). stands (row_at graph m) b) (is_last k n lt last) has)) (cases_lt k n)
    where
      is_last : (k n : ℕ) → k < n + 1 → n ≤ k → k ≡ n
      is_last k n lt le = omega arith
  show_next n (Some first) outcome same here before = λ k b lt end has.
      ⊎_elim (λ below. same from to b (before k b below end has)) (λ last. here b (subst (λ (m : ℕ). stands (row_at graph m) b) (is_last k n lt last) has)) (cases_lt k n)
    where
      is_last : (k n : ℕ) → k < n + 1 → n ≤ k → k ≡ n
      is_last k n lt le = omega arith

  pub show_all : (n m : ℕ) (all : Option Outcome) → n ≡ m → AllShow from to stands graph n all → IfSome all (λ outcome. AllShow from to stands graph m (Some outcome))
  show_all n m None is shown = tt
  show_all n m (Some outcome) is shown = subst (λ (k : ℕ). AllShow from to stands graph k (Some outcome)) is shown
