use Rattle.std.proofs.Common.{◌≡◌, ◌∙◌, List, Bool, false, replicate, sym, subst}
use Rattle.state_space.{specs.Deads.AreReaching, proofs.Dead.reaching_none}
use Rattle.state_space.proofs.ends.reaching.Goals as goal

pub go_on-requires-clause-reaching : goal.go_on-requires-clause-reaching
go_on-requires-clause-reaching g c =
    let goes = (g.S.System.rules (g.S.System.setting c.args.system.now)).goes in
    let none : c.deref_mut.result.now ≡ replicate c.count.result false = c.deref_mut.ensures.value ∙ c.in_ok-marks.ensures.items_if_clones_equal (λ y is. is) in
    subst (λ (l : List Bool). AreReaching goes c.args.graph.now c.args.goals.now l) (sym none) (reaching_none goes c.args.graph.now c.args.goals.now c.count.result)
