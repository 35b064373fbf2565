-- What two texts have alike, byte by byte.
use Rattle.std.proofs.Common.{◌≡◌, ◌+◌, ◌<◌, ◌≤◌, ◌∙◌, inl, inr, ◌==◌, if◌then◌else◌, false, ℕ, List, [], ◌∷◌, length, drop, slice_index_or, refl, ap, arith}
use Rattle.std.proofs.{Math.Dec.eqb, lemmas.{Bool.{eq-eqb, Decides.eqb_tells}, List.{Sums.sum_by-cons, drop_more, drop_all}}}
use Rattle.bench_sweep.specs.Apart.{common, ends_of}

abbrev ends_in : List ℕ → List ℕ → ℕ
ends_in xs ys = ends_of (common xs ys)

-- nothing is alike where the other has ended
common_ended : (xs : List ℕ) → common xs [] ≡ []
common_ended [] = refl
common_ended (x ∷ xs) = refl

differ : (a b : ℕ) → (a ≡ b → ⊥) → eqb a b ≡ false
differ a b f = elim (eqb_tells a b) [ inl p ↦ absurd (f p.1) | inr p ↦ p.0 ]

-- ---- by their first bytes
ends_cons : (x : ℕ) (xs : List ℕ) → ends_of (x ∷ xs) ≡ (if x == 10 then 1 else 0) + ends_of xs
ends_cons x xs = sum_by-cons (λ (b : ℕ). if b == 10 then 1 else 0) x xs

head_end : (x y : ℕ) (xs ys : List ℕ) → x ≡ y → x ≡ 10 → ends_in (x ∷ xs) (y ∷ ys) ≡ ends_in xs ys + 1
head_end x y xs ys e f = rw (eq-eqb x y e) (ends_cons x (common xs ys) ∙ rw (eq-eqb x 10 f) (let more : 1 + ends_in xs ys ≡ ends_in xs ys + 1 = omega arith in more))

head_same : (x y : ℕ) (xs ys : List ℕ) → x ≡ y → (x ≡ 10 → ⊥) → ends_in (x ∷ xs) (y ∷ ys) ≡ ends_in xs ys
head_same x y xs ys e f = rw (eq-eqb x y e) (ends_cons x (common xs ys) ∙ rw (differ x 10 f) (let none : 0 + ends_in xs ys ≡ ends_in xs ys = omega arith in none))

head_apart : (x y : ℕ) (xs ys : List ℕ) → (x ≡ y → ⊥) → ends_in (x ∷ xs) (y ∷ ys) ≡ 0
head_apart x y xs ys f = rw (differ x y f) refl

-- ---- from a place on
both : (xs ys : List ℕ) (i : ℕ) → i < length xs → i < length ys
    → ends_in (drop i xs) (drop i ys) ≡ ends_in (slice_index_or xs i 0 ∷ drop (i + 1) xs) (slice_index_or ys i 0 ∷ drop (i + 1) ys)
both xs ys i a b = ap (λ (zs : List ℕ). ends_in zs (drop i ys)) (drop_more xs i 0 a) ∙ ap (λ (zs : List ℕ). ends_in (slice_index_or xs i 0 ∷ drop (i + 1) xs) zs) (drop_more ys i 0 b)

pub goes_on_end : (xs ys : List ℕ) (i : ℕ) → i < length xs → i < length ys → slice_index_or xs i 0 ≡ slice_index_or ys i 0 → slice_index_or xs i 0 ≡ 10
    → ends_in (drop i xs) (drop i ys) ≡ ends_in (drop (i + 1) xs) (drop (i + 1) ys) + 1
goes_on_end xs ys i a b e f = both xs ys i a b ∙ head_end _ _ (drop (i + 1) xs) (drop (i + 1) ys) e f

pub goes_on : (xs ys : List ℕ) (i : ℕ) → i < length xs → i < length ys → slice_index_or xs i 0 ≡ slice_index_or ys i 0 → (slice_index_or xs i 0 ≡ 10 → ⊥)
    → ends_in (drop i xs) (drop i ys) ≡ ends_in (drop (i + 1) xs) (drop (i + 1) ys)
goes_on xs ys i a b e f = both xs ys i a b ∙ head_same _ _ (drop (i + 1) xs) (drop (i + 1) ys) e f

pub parts : (xs ys : List ℕ) (i : ℕ) → i < length xs → i < length ys → (slice_index_or xs i 0 ≡ slice_index_or ys i 0 → ⊥) → ends_in (drop i xs) (drop i ys) ≡ 0
parts xs ys i a b f = both xs ys i a b ∙ head_apart _ _ (drop (i + 1) xs) (drop (i + 1) ys) f

pub one_ends : (xs ys : List ℕ) (i : ℕ) → length xs ≤ i → ends_in (drop i xs) (drop i ys) ≡ 0
one_ends xs ys i a = ap (λ (zs : List ℕ). ends_in zs (drop i ys)) (drop_all i xs a)

pub other_ends : (xs ys : List ℕ) (i : ℕ) → length ys ≤ i → ends_in (drop i xs) (drop i ys) ≡ 0
other_ends xs ys i b = ap (λ (zs : List ℕ). ends_in (drop i xs) zs) (drop_all i ys b) ∙ ap ends_of (common_ended (drop i xs))
