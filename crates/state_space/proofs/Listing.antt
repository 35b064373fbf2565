-- Successors that can be paid, one by one.
use Rattle.std.proofs.{Common.{◌≡◌, ⊎_elim, ℕ, ◌+◌, ◌<◌, ◌≤◌, List, sym, subst, ◌∙◌, arith}, lemmas.Bool.cases_lt}
use Rattle.state_space.specs.{Listed.{ListsOne, ListsAll, ListsNext}, Successors.{found_count, found_event, found_row}}
use Rattle.state_space.specs.declared.found.Successors.{Successors}

module _ {Left : Type 0} (priced : ℕ → Left → Type 0) (with_left : Left → List ℕ → List ℕ) (inner : Successors) where
  kept : (old new : Successors) (i k : ℕ) (u : Left) → found_count old ≤ found_count new → ((j : ℕ) → j < found_count old → (found_event new j ≡ found_event old j) × (found_row new j ≡ found_row old j)) → ListsOne with_left inner old i u k → ListsOne with_left inner new i u k
  kept old new i k u le grown is = record {
    within = omega (arith, le, is.within);
    event = (grown k is.within).0 ∙ is.event;
    row = (grown k is.within).1 ∙ is.row;
  }

  pub listed_more : (old new : Successors) (n : ℕ) → ListsAll priced with_left inner old n → ListsNext priced with_left inner old new n → ListsAll priced with_left inner new (n + 1)
  listed_more old new n listed step = ⊎_elim one_more none_more step.told
    where
      one_more : (u : Left) × priced (found_event inner n) u × ((v : Left) → priced (found_event inner n) v → v ≡ u) × (found_count new ≡ found_count old + 1) × ListsOne with_left inner new n u (found_count old) → ListsAll priced with_left inner new (n + 1)
      one_more x = record {
        complete = λ i v lt pays. ⊎_elim
            (λ below. let was = listed.complete i v below pays in (was.0, kept old new i was.0 v (omega (arith, x.3)) step.grown was.1))
            (λ last.
            let is : i ≡ n = omega (arith, last, lt) in
            let same : v ≡ x.0 = x.2 v (subst (λ (m : ℕ). priced (found_event inner m) v) is pays) in
            (found_count old, subst (λ (m : ℕ). ListsOne with_left inner new m v (found_count old)) (sym is) (subst (λ (b : Left). ListsOne with_left inner new n b (found_count old)) (sym same) x.4)))
            (cases_lt i n);
        sound = λ k lt. ⊎_elim
            (λ below. let was = listed.sound k below in (was.0, was.1, omega (arith, was.2), was.3, kept old new was.0 k was.1 (omega (arith, x.3)) step.grown was.4))
            (λ last.
            let is : k ≡ found_count old = omega (arith, last, lt, x.3) in
            (n, x.0, omega arith, x.1, subst (λ (m : ℕ). ListsOne with_left inner new n x.0 m) (sym is) x.4))
            (cases_lt k (found_count old));
      }

      none_more : (found_count new ≡ found_count old) × ((v : Left) → priced (found_event inner n) v → ⊥) → ListsAll priced with_left inner new (n + 1)
      none_more x = record {
        complete = λ i v lt pays. ⊎_elim
            (λ below. let was = listed.complete i v below pays in (was.0, kept old new i was.0 v (omega (arith, x.0)) step.grown was.1))
            (λ last.
            let is : i ≡ n = omega (arith, last, lt) in
            absurd (x.1 v (subst (λ (m : ℕ). priced (found_event inner m) v) is pays)))
            (cases_lt i n);
        sound = λ k lt.
            let was = listed.sound k (omega (arith, x.0, lt)) in
            (was.0, was.1, omega (arith, was.2), was.3, kept old new was.0 k was.1 (omega (arith, x.0)) step.grown was.4);
      }
