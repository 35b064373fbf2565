-- What is read of bytes, or written of them, one byte more.
use Rattle.std.proofs.Common.{◌≡◌, ◌∙◌, ◌<◌, ◌+◌, ◌∷◌, ◌++◌, ℕ, List, length, get_or, drop, ap, sym, add-one, append_assoc, drop-cons}
use Rattle.std.specs.List.{flat_map}

-- the byte before those that are left after it
pub front_here : (xs : List ℕ) (i : ℕ) → i < length xs → get_or xs i 0 ∷ drop (i + 1) xs ≡ drop i xs
front_here xs i within = rw add-one (sym (drop-cons xs i 0 within))

-- what is written of each byte, and what is still to be written
pub written_more : (f : ℕ → List ℕ) (xs : List ℕ) (i : ℕ) (out next all : List ℕ) → i < length xs → next ≡ out ++ f (get_or xs i 0) → out ++ flat_map f (drop i xs) ≡ all → next ++ flat_map f (drop (i + 1) xs) ≡ all
written_more f xs i out next all within is so_far =
    ap (λ (x : List ℕ). x ++ flat_map f (drop (i + 1) xs)) is ∙ append_assoc out (f (get_or xs i 0)) (flat_map f (drop (i + 1) xs))
    ∙ ap (λ (ys : List ℕ). out ++ flat_map f ys) (front_here xs i within) ∙ so_far
