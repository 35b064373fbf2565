-- The table of commands refuses none of a journal.
use Rattle.std.proofs.Common.{◌≡◌, ◌∙◌, ℕ, ◌&&◌, Bool, true, List, [], ◌∷◌, ◌++◌, Option, None, is_none, refl, ap}
use Rattle.std.proofs.lemmas.Bool.{and_parts, and_from}
use Rattle.board_model.specs.{Durable.{DurableState, Change, refusal_of, after, fold}, Views.durable_of}
use Rattle.board_model.proofs.Table.{same_refusal, same_after}
use Rattle.store.specs.Taken.{are_taken}

-- one more that is not refused
pub taken_more : (s : DurableState) (cs : List Change) (c : Change) → are_taken s cs ≡ true → refusal_of (fold s cs) c ≡ None → are_taken s (cs ++ c ∷ []) ≡ true
taken_more s [] c taken free = and_from (is_none (refusal_of s c)) true (ap is_none free) refl
taken_more s (d ∷ cs) c taken free =
    let parts = and_parts (is_none (refusal_of s d)) (are_taken (after s d) cs) taken in
    and_from (is_none (refusal_of s d)) (are_taken (after s d) (cs ++ c ∷ [])) parts.0 (taken_more (after s d) cs c parts.1 free)

-- where the memory of an image is another, it refuses the same
pub taken_so : (s t : DurableState) (cs : List Change) → durable_of s ≡ durable_of t → are_taken s cs ≡ are_taken t cs
taken_so s t [] same = refl
taken_so s t (c ∷ cs) same =
    ap (λ (o : Option ℕ). is_none o && are_taken (after s c) cs) (same_refusal s t c same)
    ∙ ap (λ (b : Bool). is_none (refusal_of t c) && b) (taken_so (after s c) (after t c) cs (same_after s t c same))
