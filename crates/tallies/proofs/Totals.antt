-- Sums over the views of a table, of which a step changes one.
use Rattle.std.proofs.Common.{◌≡◌, ◌≢◌, ℕ, zero, suc, ◌+◌, ◌≤◌, List, [], ◌∷◌, ◌++◌, set, refl, sym, ap, arith}
use mathlib.Core.Option.{some, some-ne-none, some-injective}
use lib.ListN.{get_elem?}
use Rattle.tallies.specs.Sums.{total}

module _ {A : Type 0} (f : A → ℕ) where
  pub total-append : (xs ys : List A) → total f (xs ++ ys) ≡ total f xs + total f ys
  total-append [] ys = omega arith
  total-append (x ∷ xs) ys = let h = total-append xs ys in omega arith

  -- one of them is changed
  pub total-set : (xs : List A) (i : ℕ) (x y : A) → get_elem? xs i ≡ some x → total f (set xs i y) + f x ≡ total f xs + f y
  total-set [] i x y at = absurd (some-ne-none x (sym at))
  total-set (z ∷ xs) zero x y at = let e = ap f (some-injective z x at) in omega arith
  total-set (z ∷ xs) (suc i) x y at = let h = total-set xs i x y at in omega arith

  pub at_most_total : (xs : List A) (i : ℕ) (x : A) → get_elem? xs i ≡ some x → f x ≤ total f xs
  at_most_total [] i x at = absurd (some-ne-none x (sym at))
  at_most_total (z ∷ xs) zero x at = let e = ap f (some-injective z x at) in omega arith
  at_most_total (z ∷ xs) (suc i) x at = let h = at_most_total xs i x at in omega arith

  -- two of them
  pub two_at_most_total : (xs : List A) (i j : ℕ) (x y : A) → j ≢ i → get_elem? xs i ≡ some x → get_elem? xs j ≡ some y → f x + f y ≤ total f xs
  two_at_most_total [] i j x y ne ati atj = absurd (some-ne-none x (sym ati))
  two_at_most_total (z ∷ xs) zero zero x y ne ati atj = absurd (ne refl)
  two_at_most_total (z ∷ xs) zero (suc j) x y ne ati atj = let e = ap f (some-injective z x ati) in let h = at_most_total xs j y atj in omega arith
  two_at_most_total (z ∷ xs) (suc i) zero x y ne ati atj = let e = ap f (some-injective z y atj) in let h = at_most_total xs i x ati in omega arith
  two_at_most_total (z ∷ xs) (suc i) (suc j) x y ne ati atj = let h = two_at_most_total xs i j x y (λ e. ne (ap suc e)) ati atj in omega arith

  pub total_none : (xs : List A) → ((j : ℕ) (y : A) → get_elem? xs j ≡ some y → f y ≡ 0) → total f xs ≡ 0
  total_none [] none = refl
  total_none (x ∷ xs) none = let a = none 0 x refl in let h = total_none xs (λ j y at. none (suc j) y at) in omega arith

  -- all but one have none
  pub total_alone : (xs : List A) (i : ℕ) (x : A) → get_elem? xs i ≡ some x → ((j : ℕ) (y : A) → j ≢ i → get_elem? xs j ≡ some y → f y ≡ 0) → total f xs ≡ f x
  total_alone [] i x at none = absurd (some-ne-none x (sym at))
  total_alone (z ∷ xs) zero x at none = let e = ap f (some-injective z x at) in let h = total_none xs (λ j y a. none (suc j) y (λ h. omega arith) a) in omega arith
  total_alone (z ∷ xs) (suc i) x at none =
      let a = none 0 z (λ h. omega arith) refl in let h = total_alone xs i x at (λ j y ne b. none (suc j) y (λ h. ne (omega arith)) b) in omega arith

  -- a seat is cut in two
  pub total_split : (xs : List A) (i : ℕ) (x l r : A) → get_elem? xs i ≡ some x → f l + f r ≡ f x → total f (set xs i l ++ r ∷ []) ≡ total f xs
  total_split xs i x l r at sum = let a = total-append (set xs i l) (r ∷ []) in let b = total-set xs i x l at in omega arith

  -- a seat takes in another
  pub total_join : (xs : List A) (i j : ℕ) (x y b s : A) → get_elem? xs i ≡ some x → get_elem? (set xs i b) j ≡ some y → f b ≡ f x + f y → f s ≡ 0 → total f (set (set xs i b) j s) ≡ total f xs
  total_join xs i j x y b s at other sum spent = let p = total-set xs i x b at in let q = total-set (set xs i b) j y s other in omega arith
