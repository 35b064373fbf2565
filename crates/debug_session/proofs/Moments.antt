-- Turns that are added to a history.
use Rattle.std.{proofs.Common.{◌≡◌, ◌∙◌, inl, inr, Bool, ℕ, ◌+◌, List, [], ◌∷◌, ◌++◌, sym, ap, append_assoc}, specs.Prelude.replicate}
use Rattle.std.proofs.lemmas.{Grind.flat_map-append, List.{append-nil, replicate-append-replicate}}
use Rattle.script_lang.specs.declared.line.Line.{Line}
use Rattle.script_lang.specs.declared.line.Line.TheVariants as lines
use Rattle.debug_session.specs.Pasts.{IsAdded, moments, singles}

-- as a line of their own
pub alone_moments : (h n : ℕ) (past : List Line) → moments (past ++ lines.Turn h n ∷ []) ≡ moments past ++ replicate n (lines.Turn h 1)
alone_moments h n past = flat_map-append singles past (lines.Turn h n ∷ []) ∙ ap (λ (xs : List Line). moments past ++ xs) (append-nil (replicate n (lines.Turn h 1)))

-- and in the row that is the last line
pub joined_moments : (h n m : ℕ) (before : List Line) → moments (before ++ lines.Turn h (n + m) ∷ []) ≡ moments (before ++ lines.Turn h n ∷ []) ++ replicate m (lines.Turn h 1)
joined_moments h n m before =
    alone_moments h (n + m) before
    ∙ ap (λ (xs : List Line). moments before ++ xs) (sym (replicate-append-replicate n m (lines.Turn h 1)))
    ∙ sym (append_assoc (moments before) (replicate n (lines.Turn h 1)) (replicate m (lines.Turn h 1)))
    ∙ ap (λ (xs : List Line). xs ++ replicate m (lines.Turn h 1)) (sym (alone_moments h n before))

-- and as the one or the other
pub added_moments : (h count : ℕ) (joins : Bool) (old new : List Line) → IsAdded h count joins old new → moments new ≡ moments old ++ replicate count (lines.Turn h 1)
added_moments h count joins old new (inl e) = ap moments e ∙ alone_moments h count old
added_moments h count joins old new (inr (may, (before, n, was, is, few))) =
    ap moments is ∙ joined_moments h n count before ∙ ap (λ (xs : List Line). moments xs ++ replicate count (lines.Turn h 1)) (sym was)
