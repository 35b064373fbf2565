-- Turns that are counted line by line.
use Rattle.std.proofs.Common.{◌≡◌, ◌∙◌, ℕ, ◌+◌, ◌<◌, ◌≤◌, ◌==◌, Bool, true, false, List, length, take, get_or, All, if◌then◌else◌, sym, ap, subst, arith}
use Rattle.std.proofs.lemmas.List.{take_more}
use Rattle.script_lang.specs.{declared.line.Line.Line, Lines.turns_in}
use Rattle.script_lang.specs.declared.line.Line.TheVariants as lines
use Rattle.bench_schedules.{specs.Orders.{IsTurn, named}, proofs.Deals.{named_push, turns_push}}

pub turns_more : (row : List Line) (i : ℕ) (line : Line) → i < length row → line ≡ get_or row i line → All IsTurn (take i row) → IsTurn line → All IsTurn (take (i + 1) row)
turns_more row i line less e are is =
    subst (All IsTurn) (sym (take_more row i line less)) (turns_push (take i row) (get_or row i line) are (subst IsTurn e is))

pub turn_at : (row : List Line) (i : ℕ) (line : Line) → i < length row → line ≡ get_or row i line → All IsTurn row → IsTurn line
turn_at row i line less e are = subst IsTurn (sym e) (are i line less)

pub counted_more : (h : ℕ) (row : List Line) (i : ℕ) (line : Line) → i < length row → line ≡ get_or row i line → named h (take (i + 1) row) ≡ named h (take i row) + turns_in h line
counted_more h row i line less e =
    ap (named h) (take_more row i line less) ∙ named_push h (take i row) (get_or row i line) ∙ ap (λ l. named h (take i row) + turns_in h l) (sym e)

pub turns_at_most : (h : ℕ) (line : Line) → IsTurn line → turns_in h line ≤ 1000000
turns_at_most h (lines.Turn by n) is = by_case (by == h)
  where
    by_case : (b : Bool) → (if b then n else 0) ≤ 1000000
    by_case true = omega (arith, is)
    by_case false = omega arith
turns_at_most h line is = absurd is
