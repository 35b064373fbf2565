-- What a write to a free slot leaves of a table, and what a search of it shows.
use Rattle.std.proofs.Common.{◌≡◌, ◌⊎◌, ⊎_elim, ℕ, zero, suc, ◌+◌, ◌-◌, ◌<◌, ◌≤◌, List, length, get_or, refl, sym, ap, subst, ◌∙◌, arith, add-one}
use Rattle.std.{proofs.{Math.ListN.{set, length-set, replicate, length-replicate}, lemmas.Nat.and_le_r}, specs.Prelude.bit_and}
use Rattle.std.proofs.lemmas.{List.{get_or-set_same, get_or-set_other, get_or-replicate}, Bool.{cases_eq, cases_lt, cases_order}}
use Rattle.state_space.specs.Tables.{EMPTY, slot_at, number_at, AreTaken, IsHeld, IsFree, AreBelow, IsTable}

pub slot_within : (mask hash n : ℕ) → slot_at mask hash n ≤ mask
unfolding slot_at
slot_within mask hash zero = and_le_r hash mask
slot_within mask hash (suc n) = and_le_r (slot_at mask hash n + 1) mask

pub slot_first : (mask hash : ℕ) → slot_at mask hash 0 ≡ bit_and hash mask
unfolding slot_at
slot_first mask hash = refl

pub slot_next : (mask hash n : ℕ) → slot_at mask hash (n + 1) ≡ bit_and (slot_at mask hash n + 1) mask
unfolding slot_at
slot_next mask hash n = rw add-one refl

-- one more slot that is taken
pub taken_more : (slots : List ℕ) (hash n place : ℕ) → place ≡ slot_at (length slots - 1) hash n → (get_or slots place 0 ≡ EMPTY → ⊥) → AreTaken slots hash n → AreTaken slots hash (n + 1)
taken_more slots hash n place is taken before j lt empty =
    ⊎_elim
    (λ less. before j less empty)
    (λ last.
    let same : j ≡ n = omega arith in
    taken (ap (λ k. get_or slots k 0) (is ∙ ap (slot_at (length slots - 1) hash) (sym same)) ∙ empty))
    (cases_lt j n)

pub others_more : {T : Type 0} (entry : ℕ → List T) (slots : List ℕ) (hash n place : ℕ) (key : List T) → place ≡ slot_at (length slots - 1) hash n → (entry (get_or slots place 0) ≡ key → ⊥) → ((j : ℕ) → j < n → entry (number_at slots hash j) ≡ key → ⊥) → (j : ℕ) → j < n + 1 → entry (number_at slots hash j) ≡ key → ⊥
others_more entry slots hash n place key is other before j lt equal =
    ⊎_elim
    (λ less. before j less equal)
    (λ last.
    let same : j ≡ n = omega arith in
    other (ap (λ k. entry (get_or slots k 0)) (is ∙ ap (slot_at (length slots - 1) hash) (sym same)) ∙ equal))
    (cases_lt j n)

pub free_made : (slots : List ℕ) (hash n place : ℕ) → place ≡ slot_at (length slots - 1) hash n → place < length slots → get_or slots place 0 ≡ EMPTY → AreTaken slots hash n → IsFree slots hash place
free_made slots hash n place is within free taken = record {
  after = n;
  there = sym is;
  within = within;
  free = free;
  taken = taken;
}

module _ (slots : List ℕ) (place number : ℕ) (within : place < length slots) (free : get_or slots place 0 ≡ EMPTY) (some : number ≡ EMPTY → ⊥) where
  -- where a number stood before, it stands after the write
  set_other : (hash j : ℕ) → (number_at slots hash j ≡ EMPTY → ⊥) → number_at (set slots place number) hash j ≡ number_at slots hash j
  set_other hash j taken =
      ap (λ m. get_or (set slots place number) (slot_at (m - 1) hash j) 0) (length-set slots place number)
      ∙ get_or-set_other slots place (slot_at (length slots - 1) hash j) number 0
      (λ is. taken (ap (λ k. get_or slots k 0) is ∙ free))

  free_by : (at : ℕ) → get_or (set slots place number) at 0 ≡ EMPTY → (at ≡ place) ⊎ (at ≡ place → ⊥) → get_or slots at 0 ≡ EMPTY
  free_by at now cases =
      ⊎_elim
      (λ is. absurd (some (sym (get_or-set_same slots place number 0 within) ∙ ap (λ k. get_or (set slots place number) k 0) (sym is) ∙ now)))
      (λ other. sym (get_or-set_other slots place at number 0 other) ∙ now)
      cases

  -- a slot that is free after the write was free before it
  set_free : (hash j : ℕ) → number_at (set slots place number) hash j ≡ EMPTY → number_at slots hash j ≡ EMPTY
  set_free hash j now =
      free_by (slot_at (length slots - 1) hash j)
      (ap (λ m. get_or (set slots place number) (slot_at (m - 1) hash j) 0) (sym (length-set slots place number)) ∙ now)
      (cases_eq (slot_at (length slots - 1) hash j) place)

  pub held_stays : (hash k : ℕ) → (k ≡ EMPTY → ⊥) → IsHeld slots hash k → IsHeld (set slots place number) hash k
  held_stays hash k is_some held n free_n none =
      held n (set_free hash n free_n)
      (λ j lt is. none j lt (set_other hash j (λ empty. is_some (sym is ∙ empty)) ∙ is))

  module _ (hash : ℕ) (is_free : IsFree slots hash place) where
    stands : number_at (set slots place number) hash is_free.after ≡ number
    stands =
        ap (λ m. get_or (set slots place number) (slot_at (m - 1) hash is_free.after) 0) (length-set slots place number)
        ∙ ap (λ k. get_or (set slots place number) k 0) is_free.there
        ∙ get_or-set_same slots place number 0 within

    pub held_new : IsHeld (set slots place number) hash number
    held_new n free_n none =
        ⊎_elim
        (λ is. some (sym stands ∙ ap (λ m. number_at (set slots place number) hash m) (sym is) ∙ free_n))
        (λ order. ⊎_elim
        (λ before. is_free.taken n before (set_free hash n free_n))
        (λ after. none is_free.after after stands)
        order)
        (cases_order n is_free.after)

  pub below_set : (before after : ℕ) → AreBelow slots before → before ≤ after → number < after → AreBelow (set slots place number) after
  below_set before after below le lt i in_set taken =
      ⊎_elim
      (λ is. subst (λ k. k < after) (sym (ap (λ k. get_or (set slots place number) k 0) is ∙ get_or-set_same slots place number 0 within)) lt)
      (λ other.
      let same : get_or (set slots place number) i 0 ≡ get_or slots i 0 = get_or-set_other slots place i number 0 other in
      let was : get_or slots i 0 < before = below i (subst (λ n. i < n) (length-set slots place number) in_set) (λ empty. taken (same ∙ empty)) in
      subst (λ k. k < after) (sym same) (omega arith))
      (cases_eq i place)

-- the table with one entry more
pub table_grown : (slots : List ℕ) (old new : ℕ → ℕ) (count place : ℕ) → IsTable slots old count → IsFree slots (new count) place → ((k : ℕ) → k < count → new k ≡ old k) → count + 1 < EMPTY → IsTable (set slots place count) new (count + 1)
table_grown slots old new count place table is_free same room =
    let some : count ≡ EMPTY → ⊥ = λ is. omega arith in
    record {
      some = subst (λ n. 0 < n) (sym (length-set slots place count)) table.some;
      room = room;
      below = below_set slots place count is_free.within is_free.free some count (count + 1) table.below (omega arith) (omega arith);
      held = λ k lt. ⊎_elim
          (λ before. subst (λ h. IsHeld (set slots place count) h k) (sym (same k before))
          (held_stays slots place count is_free.within is_free.free some (old k) k (λ is. omega (arith, table.room)) (table.held k before)))
          (λ last.
          let is : k ≡ count = omega arith in
          subst (λ m. IsHeld (set slots place count) (new m) m) (sym is)
          (held_new slots place count is_free.within is_free.free some (new count) is_free))
          (cases_lt k count);
    }

-- a table of free slots
pub table_empty : (n : ℕ) (hash : ℕ → ℕ) → 0 < n → IsTable (replicate n EMPTY) hash 0
table_empty n hash some = record {
  some = subst (λ m. 0 < m) (sym (length-replicate n EMPTY)) some;
  room = omega arith;
  below = λ i lt taken. absurd (taken (get_or-replicate n i EMPTY 0 (subst (λ m. i < m) (length-replicate n EMPTY) lt)));
  held = λ k lt. absurd (omega arith);
}

-- the same hashes, the same table
pub table_same : (slots : List ℕ) (old new : ℕ → ℕ) (count : ℕ) → IsTable slots old count → ((k : ℕ) → k < count → new k ≡ old k) → IsTable slots new count
table_same slots old new count table same = record {
  some = table.some;
  room = table.room;
  below = table.below;
  held = λ k lt. subst (λ h. IsHeld slots h k) (sym (same k lt)) (table.held k lt);
}
