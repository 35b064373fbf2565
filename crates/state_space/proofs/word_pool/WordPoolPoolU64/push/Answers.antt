use Rattle.std.proofs.Common.{◌<◌, ◌≤◌, ◌∷◌, ◌++◌, [], get_or, ap, subst, ◌∙◌}
use Rattle.state_space.proofs.Parts.{words_stay}
use Rattle.state_space.proofs.word_pool.WordPoolPoolU64.push.Goals as goal

pub returns-clause-stay : goal.returns-clause-stay
returns-clause-stay c k lt =
    words_stay c.args.self.now.words.items c.extend_from_slice.new.self.items c.args.key.now c.args.self.now.ends.items c.push.new.self.items c.len-end.result k
    c.in_ok-extend_from_slice.ensures.items
    (c.in_ok-push.ensures.items ∙ ap (λ l. l ++ c.len-end.result ∷ []) c.in_ok-reserve.ensures.items)
    (subst (λ n. k < n) c.args.self.now.ends.ok.0 lt)
    (c.args.self.now.in_order k lt)
    (subst (λ n. get_or c.args.self.now.ends.items k 0 ≤ n) c.args.self.now.words.ok.0 (c.args.self.now.within k lt))
