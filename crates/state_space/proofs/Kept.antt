-- Entries that are pairwise distinct stay so.
use Rattle.std.proofs.{Common.{◌≡◌, ⊎_elim, ℕ, ◌+◌, ◌<◌, List, sym, ap, subst, ◌∙◌, arith}, Math.ListN.set, lemmas.Bool.cases_lt}
use Rattle.state_space.specs.{Tables.{EMPTY, number_at, IsHeld, IsFree}, Pools.{AreDistinct, AreKept, Stay}}
use Rattle.state_space.proofs.Slots.{table_grown, table_same}

module _ {T : Type 0} (old new : ℕ → List T) (count : ℕ) (stay : Stay old count new) where
  pub kept_same : (hash_of : List T → ℕ) (slots : List ℕ) → AreKept old count hash_of slots → AreKept new count hash_of slots
  kept_same hash_of slots kept = record {
    table = table_same slots (λ k. hash_of (old k)) (λ k. hash_of (new k)) count kept.table (λ k lt. ap hash_of (stay k lt));
    distinct = λ i j lti ltj is. kept.distinct i j lti ltj (sym (stay i lti) ∙ is ∙ stay j ltj);
  }

  module _ (key : List T) (last : new count ≡ key) (absent : (k : ℕ) → k < count → old k ≡ key → ⊥) where
    distinct_grown : AreDistinct old count → AreDistinct new (count + 1)
    distinct_grown distinct i j lti ltj is =
        ⊎_elim
        (λ i_before. ⊎_elim
        (λ j_before. distinct i j i_before j_before (sym (stay i i_before) ∙ is ∙ stay j j_before))
        (λ j_last.
        let at : j ≡ count = omega arith in
        absurd (absent i i_before (sym (stay i i_before) ∙ is ∙ ap new at ∙ last)))
        (cases_lt j count))
        (λ i_last.
        let at : i ≡ count = omega arith in
        ⊎_elim
        (λ j_before. absurd (absent j j_before (sym (stay j j_before) ∙ sym is ∙ ap new at ∙ last)))
        (λ j_last. omega arith)
        (cases_lt j count))
        (cases_lt i count)

    pub kept_grown : (hash_of : List T → ℕ) (slots : List ℕ) (place : ℕ) → AreKept old count hash_of slots → IsFree slots (hash_of key) place → count + 1 < EMPTY → AreKept new (count + 1) hash_of (set slots place count)
    kept_grown hash_of slots place kept is_free room = record {
      table = table_grown slots (λ k. hash_of (old k)) (λ k. hash_of (new k)) count place kept.table (subst (λ h. IsFree slots h place) (ap hash_of (sym last)) is_free) (λ k lt. ap hash_of (stay k lt)) room;
      distinct = distinct_grown kept.distinct;
    }

-- At a free slot, where no number before it is one of an equal entry, no entry is equal.
pub absent_at : {T : Type 0} (entry : ℕ → List T) (hash_of : List T → ℕ) (slots : List ℕ) (key : List T) (n k : ℕ) → IsHeld slots (hash_of (entry k)) k → ((j : ℕ) → j < n → entry (number_at slots (hash_of key) j) ≡ key → ⊥) → number_at slots (hash_of key) n ≡ EMPTY → entry k ≡ key → ⊥
absent_at entry hash_of slots key n k held others free is =
    let at : IsHeld slots (hash_of key) k = subst (λ h. IsHeld slots h k) (ap hash_of is) held in
    at n free (λ j lt there. others j lt (ap entry there ∙ is))
