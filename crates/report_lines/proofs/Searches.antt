-- What can be told of numbers that are below a bound: either one of them is so, or none is.
use Rattle.std.{proofs.Common.{◌≡◌, ◌⊎◌, ◌<◌, ◌≤◌, ℕ, zero, suc, inl, inr, List, [], ◌∷◌, refl, ap, ◌∙◌, subst, arith}, specs.Prelude.⊤}
use Rattle.std.proofs.lemmas.Bool.{cases_lt, cases_eq}

-- it is so, or it is not
abbrev pub Decided : Type 0 → Type 0
Decided P = P ⊎ (P → ⊥)

pub both : {P Q : Type 0} → Decided P → Decided Q → Decided (P × Q)
both (inl p) (inl q) = inl (p, q)
both (inr never) q = inr (λ h. never h.0)
both p (inr never) = inr (λ h. never h.1)

-- by what is so together with it
pub as_well : {P Q : Type 0} → (P → Q) → (Q → P) → Decided P → Decided Q
as_well there back (inl p) = inl (there p)
as_well there back (inr never) = inr (λ q. never (back q))

pub three : {P Q R : Type 0} → Decided P → Decided Q → Decided R → Decided (P × Q × R)
three p q r = as_well (λ h. (h.0.0, h.0.1, h.1)) (λ h. ((h.0, h.1), h.2)) (both (both p q) r)

pub six : {A B C D E F : Type 0} → Decided A → Decided B → Decided C → Decided D → Decided E → Decided F → Decided (A × B × C × D × E × F)
six a b c d e f =
    as_well (λ h. (h.0.0, h.0.1, h.0.2, h.1.0, h.1.1, h.1.2)) (λ h. ((h.0, h.1, h.2), (h.3, h.4, h.5))) (both (three a b c) (three d e f))

pub less : (m n : ℕ) → Decided (m < n)
less m n = elim (cases_lt m n) [
  | inl h ↦ inl h
  | inr h ↦ inr (λ k. omega (arith, h, k))
]

pub at_most : (m n : ℕ) → Decided (m ≤ n)
at_most m n = elim (cases_lt n m) [
  | inl h ↦ inr (λ k. omega (arith, h, k))
  | inr h ↦ inl h
]

pub equal : (m n : ℕ) → Decided (m ≡ n)
equal m n = cases_eq m n

pub equal_lists : (xs ys : List ℕ) → Decided (xs ≡ ys)
equal_lists [] [] = inl refl
equal_lists [] (y ∷ ys) = inr (λ e. (let no : ⊥ = cc in no))
equal_lists (x ∷ xs) [] = inr (λ e. (let no : ⊥ = cc in no))
equal_lists (x ∷ xs) (y ∷ ys) = by (equal x y) (equal_lists xs ys)
  where
    by : Decided (x ≡ y) → Decided (xs ≡ ys) → Decided ((x ∷ xs) ≡ (y ∷ ys))
    by (inl e) (inl f) = inl (ap (λ (n : ℕ). n ∷ xs) e ∙ ap (λ (zs : List ℕ). y ∷ zs) f)
    by (inr never) f = inr (λ g. never (let h : x ≡ y = cc in h))
    by e (inr never) = inr (λ g. never (let h : xs ≡ ys = cc in h))

-- one below the bound is so, or none is
pub below : (n : ℕ) (P : ℕ → Type 0) → ((k : ℕ) → Decided (P k)) → Decided ((k : ℕ) × (k < n) × P k)
below zero P each = inr (λ h. omega (arith, h.1))
below (suc n) P each = by (each n) (below n P each)
  where
    by : Decided (P n) → Decided ((k : ℕ) × (k < n) × P k) → Decided ((k : ℕ) × (k < suc n) × P k)
    by (inl p) rest = inl (n, omega arith, p)
    by (inr never) (inl (k, lt, p)) = inl (k, omega (arith, lt), p)
    by (inr never) (inr none) = inr (λ h. elim (cases_lt h.0 n) [
      | inl lt ↦ none (h.0, lt, h.2)
      | inr ge ↦ never (let e : h.0 ≡ n = omega (arith, ge, h.1) in subst P e h.2)
    ])

-- all below the bound are so, or not all are
pub all_below : (n : ℕ) (P : ℕ → Type 0) → ((k : ℕ) → Decided (P k)) → Decided ((k : ℕ) → k < n → P k)
all_below zero P each = inl (λ k lt. absurd (omega (arith, lt)))
all_below (suc n) P each = by (each n) (all_below n P each)
  where
    by : Decided (P n) → Decided ((k : ℕ) → k < n → P k) → Decided ((k : ℕ) → k < suc n → P k)
    by (inr never) rest = inr (λ all. never (all n (omega arith)))
    by (inl p) (inr never) = inr (λ all. never (λ k lt. all k (omega (arith, lt))))
    by (inl p) (inl rest) = inl (λ k lt. elim (cases_lt k n) [
      | inl lower ↦ rest k lower
      | inr ge ↦ (let e : n ≡ k = omega (arith, ge, lt) in subst P e p)
    ])

-- numbers in a row, each below its bound
abbrev pub AreBelow : List ℕ → List ℕ → Type 0
AreBelow [] [] = ⊤
AreBelow (bound ∷ bounds) (n ∷ ns) = (n < bound) × AreBelow bounds ns
AreBelow [] (n ∷ ns) = ⊥
AreBelow (bound ∷ bounds) [] = ⊥

-- such numbers are so after that one
abbrev Follow : List ℕ → (List ℕ → Type 0) → ℕ → Type 0
Follow bounds P n = (ns : List ℕ) × AreBelow bounds ns × P (n ∷ ns)

-- some such numbers are so, or none are
pub rows : (bounds : List ℕ) (P : List ℕ → Type 0) → ((ns : List ℕ) → Decided (P ns)) → Decided ((ns : List ℕ) × AreBelow bounds ns × P ns)
rows [] P each = by (each [])
  where
    by : Decided (P []) → Decided ((ns : List ℕ) × AreBelow [] ns × P ns)
    by (inl p) = inl ([], tt, p)
    by (inr never) = inr none
      where
        none : ((ns : List ℕ) × AreBelow [] ns × P ns) → ⊥
        none ([], a, p) = never p
        none (n ∷ ns, a, p) = absurd a
rows (bound ∷ bounds) P each = by (below bound (Follow bounds P) (λ n. rows bounds (λ ns. P (n ∷ ns)) (λ ns. each (n ∷ ns))))
  where
    by : Decided ((n : ℕ) × (n < bound) × Follow bounds P n) → Decided ((ns : List ℕ) × AreBelow (bound ∷ bounds) ns × P ns)
    by (inl (n, lt, (ns, are, p))) = inl (n ∷ ns, (lt, are), p)
    by (inr never) = inr none
      where
        none : ((ns : List ℕ) × AreBelow (bound ∷ bounds) ns × P ns) → ⊥
        none ([], a, p) = absurd a
        none (n ∷ ns, a, p) = never (n, a.0, (ns, a.1, p))
