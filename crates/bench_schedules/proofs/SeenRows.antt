-- Rows of turns, as a hart sees them.
use Rattle.std.proofs.Common.{◌≡◌, ◌∙◌, ℕ, suc, ◌+◌, ◌==◌, List, [], ◌∷◌, ◌++◌, All, if◌then◌else◌, refl, ap, sym, arith}
use Rattle.std.proofs.lemmas.List.{Elements.{All-head, All-tail}, Sums.sum_by-cons}
use Rattle.script_lang.specs.{declared.line.Line.Line, Lines.turns_in}
use Rattle.script_lang.specs.declared.line.Line.TheVariants as lines
use Rattle.bench_schedules.specs.Orders.{other_count, IsTurn, named, more_turns, seen_by, AreOrderOf}

pub no_more : (those : List Line) → more_turns 0 those ≡ those
no_more [] = refl
no_more (lines.Turn by n ∷ others) = ap (λ k. lines.Turn by k ∷ others) (omega arith)
no_more (line ∷ others) = refl

pub more_twice : (a b : ℕ) (those : List Line) → more_turns a (more_turns b those) ≡ more_turns (a + b) those
more_twice a b [] = refl
more_twice a b (lines.Turn by n ∷ others) = ap (λ k. lines.Turn by k ∷ others) (omega arith)
more_twice a b (line ∷ others) = refl

seen_row : (h : ℕ) (row back : List Line) → All IsTurn row → seen_by h (row ++ back) ≡ more_turns (named h row) (seen_by h back)
unfolding seen_by
seen_row h [] back are = sym (no_more (seen_by h back))
seen_row h (lines.Turn by n ∷ row) back are =
    ap (more_turns (if by == h then n else 0)) (seen_row h row back (All-tail IsTurn (lines.Turn by n) row are))
    ∙ more_twice (if by == h then n else 0) (named h row) (seen_by h back)
    ∙ ap (λ k. more_turns k (seen_by h back)) (sym (sum_by-cons (turns_in h) (lines.Turn by n) row))
seen_row h (line ∷ row) back are = absurd (All-head IsTurn line row are)

behind : (h : ℕ) (front a b : List Line) → seen_by h a ≡ seen_by h b → seen_by h (front ++ a) ≡ seen_by h (front ++ b)
unfolding seen_by
behind h [] a b e = e
behind h (lines.Turn by n ∷ more) a b e = ap (more_turns (if by == h then n else 0)) (behind h more a b e)
behind h (line ∷ more) a b e = ap (λ s. lines.Turn h 0 ∷ line ∷ s) (behind h more a b e)

pub order_of_rows : (front old new back : List Line) → All IsTurn old → All IsTurn new
    → ((h : ℕ) → named h new ≡ named h old) → AreOrderOf (front ++ (old ++ back)) (front ++ (new ++ back))
order_of_rows front old new back are too same h =
    behind h front (new ++ back) (old ++ back)
    (seen_row h new back too
    ∙ ap (λ k. more_turns k (seen_by h back)) (same h)
    ∙ sym (seen_row h old back are))

-- ---- lines that are no turns
grown_count : (n : ℕ) (those : List Line) → other_count (more_turns n those) ≡ other_count those
grown_count n [] = refl
grown_count n (lines.Turn by m ∷ more) = refl
grown_count n (line ∷ more) = refl

seen_count : (h : ℕ) (those : List Line) → other_count (seen_by h those) ≡ other_count those
unfolding seen_by
seen_count h [] = refl
seen_count h (lines.Turn by n ∷ more) = grown_count (if by == h then n else 0) (seen_by h more) ∙ seen_count h more
seen_count h (line ∷ more) = ap suc (seen_count h more)

pub others_stay : (old new : List Line) → AreOrderOf old new → other_count new ≡ other_count old
others_stay old new order = sym (seen_count 0 new) ∙ ap other_count (order 0) ∙ seen_count 0 old
