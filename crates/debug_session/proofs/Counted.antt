-- What is written of one number more.
use Rattle.std.proofs.{Common.{◌≡◌, ◌∙◌, ℕ, zero, suc, ◌+◌, List, ◌++◌, ap, sym, append_assoc, add-one, arith}, lemmas.List.append-nil}
use Rattle.std.specs.List.{flat_map, range_with_len}

one_more : (f : ℕ → List ℕ) (a n : ℕ) → flat_map f (range_with_len a (suc n)) ≡ flat_map f (range_with_len a n) ++ f (a + n)
one_more f a zero = append-nil (f a) ∙ ap f (omega arith)
one_more f a (suc n) =
    let last : a + 1 + n ≡ a + suc n = omega arith in
    ap (λ x. f a ++ x) (one_more f (a + 1) n)
    ∙ sym (append_assoc (f a) (flat_map f (range_with_len (a + 1) n)) (f (a + 1 + n)))
    ∙ ap (λ k. (f a ++ flat_map f (range_with_len (a + 1) n)) ++ f k) last

pub counted_more : (f : ℕ → List ℕ) (n : ℕ) → flat_map f (range_with_len 0 (n + 1)) ≡ flat_map f (range_with_len 0 n) ++ f n
counted_more f n =
    let last : 0 + n ≡ n = omega arith in
    rw add-one (one_more f 0 n) ∙ ap (λ k. flat_map f (range_with_len 0 n) ++ f k) last
