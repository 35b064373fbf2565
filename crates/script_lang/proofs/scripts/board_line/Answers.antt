use Rattle.std.proofs.Common.{Result, sym, subst, inr}
use Rattle.board_model.specs.{Shapes.Size, declared.refusal.Refusal.Refusal}
use Rattle.script_lang.{specs.Scripts.Gives, proofs.Classes.{named, first_of, no_board, board_named, other_named}}
use Rattle.script_lang.proofs.scripts.board_line.Goals as goal

pub returns-in-empty : goal.returns-in-empty
returns-in-empty c = inr (no_board c.args.n c.args.words.now c.in-empty.len_below)

pub returns-then-eq : goal.returns-then-eq
returns-then-eq c =
    subst (λ (r : Result Size Refusal). Gives (λ (s : Size). s) c.shape.result r)
    (sym (board_named c.args.n c.args.words.now c.in-len1-up.len_at_least (named (first_of c.args.words.now) _ _ _ _ c.as_slice.ensures c.eq.ensures c.if-eq.true)))
    c.shape.ensures

pub returns-else-eq : goal.returns-else-eq
returns-else-eq c = inr (other_named c.args.n c.args.words.now c.in-len1-up.len_at_least (named (first_of c.args.words.now) _ _ _ _ c.as_slice.ensures c.eq.ensures c.if-eq.false))
