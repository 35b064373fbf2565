use Rattle.std.proofs.Common.{rules, List, ℕ, [], ◌∷◌, ◌++◌, ◌≡◌, inl, sym, subst}
use Rattle.board_space.{specs.Tracked.IsKept, proofs.Kept.{kept_more, kept_last}}
use Rattle.board_space.proofs.row_layout.add.Goals as goal

pub returns-in_ok-close-clause-keeps : goal.returns-in_ok-close-clause-keeps
returns-in_ok-close-clause-keeps c k kept =
    let items : c.push.new.self.items ≡ c.args.made.now.items ++ c.args.word ∷ [] = search rules in
    inl (c.in_ok-close.ensures.keeps k (subst (λ (m : List ℕ). IsKept c.args.tracked.now m k) (sym items) (kept_more c.args.tracked.now c.args.made.now.items c.args.word k kept)))

pub returns-in_ok-close-clause-added : goal.returns-in_ok-close-clause-added
returns-in_ok-close-clause-added c =
    let items : c.push.new.self.items ≡ c.args.made.now.items ++ c.args.word ∷ [] = search rules in
    inl (c.in_ok-close.ensures.keeps c.args.word (subst (λ (m : List ℕ). IsKept c.args.tracked.now m c.args.word) (sym items) (kept_last c.args.tracked.now c.args.made.now.items c.args.word)))
