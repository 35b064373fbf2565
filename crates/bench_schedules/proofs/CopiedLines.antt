-- One line of a row more is copied.
use Rattle.std.proofs.{Common.{◌≡◌, ◌∙◌, ◌+◌, ◌<◌, ℕ, List, [], ◌∷◌, ◌++◌, length, get_or, take, ap, sym}, lemmas.List.take_more}

pub row_more : {X : Type 0} (row so_far new : List X) (i : ℕ) (x y : X) → i < length row → x ≡ get_or row i x → y ≡ x → so_far ≡ take i row → new ≡ so_far ++ y ∷ [] → new ≡ take (i + 1) row
row_more {X} row so_far new i x y lt is same copied made =
    made
    ∙ (ap (λ (z : X). so_far ++ z ∷ []) same
    ∙ (ap (λ (l : List X). l ++ x ∷ []) copied ∙ (ap (λ (z : X). take i row ++ z ∷ []) is ∙ sym (take_more row i x lt))))
