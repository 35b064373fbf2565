-- Rows that are handed on, one more, or one window more.
use Rattle.std.proofs.{Common.{◌≡◌, ◌+◌, ℕ, List, [], ◌∷◌, ◌++◌, length, refl, subst, arith}, lemmas.List.length-append}
use Rattle.crew.specs.Handed.{AreRows, TakesAll, Handed}

pub taken_both : {Row S : Type 0} (takes : S → Row → S → Type 0) (s t u : S) (xs ys : List Row) → TakesAll takes s xs t → TakesAll takes t ys u → TakesAll takes s (xs ++ ys) u
taken_both {Row} {S} takes s t u [] ys first second = subst (λ (v : S). TakesAll takes v ys u) first second
taken_both takes s t u (x ∷ xs) ys first second = (first.0, first.1, taken_both takes first.0 t u xs ys first.2 second)

pub rows_both : {Row : Type 0} (is : ℕ → Row → Type 0) (first n : ℕ) (xs ys : List Row) → length xs ≡ n → AreRows is first xs → AreRows is (first + n) ys → AreRows is first (xs ++ ys)
rows_both is first n [] ys len a b = subst (λ (k : ℕ). AreRows is k ys) (let e : first + n ≡ first = omega (arith, len) in e) b
rows_both is first n (x ∷ xs) ys len a b = (a.0, rows_both is (first + 1) (length xs) xs ys refl a.1 (subst (λ (k : ℕ). AreRows is k ys) (let e : first + n ≡ first + 1 + length xs = omega (arith, len) in e) b))

-- and then n more
pub handed_both : {Row S : Type 0} (is : ℕ → Row → Type 0) (takes : S → Row → S → Type 0) (first m n : ℕ) (s t u : S) → Handed is takes first m s t → Handed is takes (first + m) n t u → Handed is takes first (m + n) s u
handed_both is takes first m n s t u a b = record {
  rows = a.rows ++ b.rows;
  many = omega (arith, length-append a.rows b.rows, a.many, b.many);
  each = rows_both is first m a.rows b.rows a.many a.each b.each;
  taken = taken_both takes s t u a.rows b.rows a.taken b.taken;
}

-- and then one more
pub handed_more : {Row S : Type 0} (is : ℕ → Row → Type 0) (takes : S → Row → S → Type 0) (first m : ℕ) (s t u : S) (row : Row) → Handed is takes first m s t → is (first + m) row → takes t row u → Handed is takes first (m + 1) s u
handed_more is takes first m s t u row a one took = handed_both is takes first m 1 s t u a (record { rows = row ∷ []; many = refl; each = (one, tt); taken = (u, took, refl) })
