use Rattle.std.proofs.Common.{rules, ◌≡◌, ◌≢◌, ◌∙◌, ◌+◌, ℕ, List, [], ◌∷◌, ◌++◌, length, length-append, ap, subst}
use Rattle.state_space.{specs.Carried.{IsTarget, NOWHERE}, proofs.Carrying.targets_more}
use Rattle.state_space.proofs.workers.find_targets.Goals as goal

pub loop-index-preserved : goal.loop-index-preserved
loop-index-preserved c =
    let until = c.loop-index.invariant in
    let k = c.target_of.result in
    let items : c.push.new.self.items ≡ c.loop-index.targets.items ++ k ∷ [] = search rules in
    record {
      long = ap (λ (l : List ℕ). length l) items ∙ (length-append c.loop-index.targets.items (k ∷ []) ∙ ap (λ (n : ℕ). n + 1) until.long);
      each = targets_more c.args.graph.now c.args.found.now c.loop-index.targets.items c.push.new.self.items c.loop-index.index k items until.long until.each
          (subst (λ r. k ≢ NOWHERE → IsTarget c.args.graph.now r k) c.row.ensures.row c.target_of.ensures);
    }
