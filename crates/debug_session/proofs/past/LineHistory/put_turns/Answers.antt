use Rattle.std.proofs.Common.{◌≡◌, ◌∙◌, ◌+◌, ◌-◌, ◌++◌, ◌∷◌, [], inr, ℕ, List, length, slice_set, refl, ap, arith}
use Rattle.std.proofs.lemmas.List.{length-append}
use Rattle.script_lang.specs.declared.line.Line.{Line}
use Rattle.script_lang.specs.declared.line.Line.TheVariants as lines
use Rattle.debug_session.proofs.past.LineHistory.put_turns.Goals as goal

set_last : (xs : List Line) (y x : Line) → slice_set (xs ++ y ∷ []) (length xs) x ≡ xs ++ x ∷ []
set_last [] y x = refl
set_last (z ∷ xs) y x = ap (λ l. z ∷ l) (set_last xs y x)

pub returns : goal.returns
returns c =
    let before = c.in-Some.ensures.1.0 in
    let joined : Line = lines.Turn c.args.hart (c.in-Some.before + c.args.count) in
    let was : c.self.inside.lines.items ≡ before ++ lines.Turn c.args.hart c.in-Some.before ∷ [] = c.self.view_is ∙ c.in-Some.ensures.1.1 in
    let place : c.len-last.result - 1 ≡ length before = omega (arith, c.len-last.ensures, ap length was, length-append before (lines.Turn c.args.hart c.in-Some.before ∷ [])) in
    let last = ap (λ (l : List Line). slice_set l (c.len-last.result - 1) joined) was ∙ (ap (λ (n : ℕ). slice_set (before ++ lines.Turn c.args.hart c.in-Some.before ∷ []) n joined) place ∙ set_last before (lines.Turn c.args.hart c.in-Some.before) joined) in
    inr (c.if-joins.true, (before, c.in-Some.before, c.in-Some.ensures.1.1, last, c.in-Some.ensures.0))
