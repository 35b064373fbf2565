use Rattle.std.proofs.lemmas.List.Elements.{All-push, All-same}
use Rattle.state_space.specs.Carried.{AreMade}
use Rattle.state_space.proofs.windows.+shares.Goals as goal

pub returns-clause-made : goal.returns-clause-made
returns-clause-made g t c =
    let s = g.S.System in
    let made = AreMade s.setting s.rules s.stands g.S.Carries.knows c.args.system.now c.args.graph.now in
    All-same made c.push_reserved-2.new.self.items _ c.push_reserved-2.ensures.items
    (All-push made c.join-one.result.1.items c.join-one.result.0 c.join-one.ensures.second.2 c.join-one.ensures.first)
