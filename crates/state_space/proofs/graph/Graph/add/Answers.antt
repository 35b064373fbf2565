use Rattle.std.proofs.{Common.{◌≡◌, length, refl, rules, arith}, lemmas.Grind.common_steps}
use Rattle.state_space.proofs.Growth.{whole_added}
use Rattle.state_space.proofs.graph.Graph.add.Goals as goal

pub returns-clause-whole : goal.returns-clause-whole
returns-clause-whole c =
    let is : c.in-Ok.end ≡ length c.add_steps.new.self.targets.items = first_of (search rules, grind (arith, common_steps)) in
    whole_added c.args.self.now c.add_steps.new.self _ c.args.found.now c.args.is_end c.in-Ok.end c.requires.whole
    c.in_ok-add_steps.ensures c.in_ok-push-2.ensures.items c.in_ok-push.ensures.items is refl refl refl
