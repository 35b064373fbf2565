use Rattle.std.proofs.Common.{is_ok, All, IfSome, List, Option, subst, sym}
use Rattle.state_space.{specs.{Carried.IsMade, declared.workers.Made.Made}, proofs.Carrying.{all_stay, pushed_each}}
use Rattle.state_space.proofs.workers.Worker.make.Goals as goal

pub returns-in-Ok-Some-clause-made : goal.returns-in-Ok-Some-clause-made
returns-in-Ok-Some-clause-made g c =
    let s = g.S.System in
    let rules = s.rules (s.setting c.args.main.now) in
    let before = subst (λ (l : List Made). All (IsMade rules (s.stands c.args.main.now) (s.stands c.args.self.now.system) c.args.graph.now) l) (sym c.expanded.ensures.same) c.requires.made in
    pushed_each (IsMade rules (s.stands c.args.main.now) (s.stands c.expanded.new.self.system) c.args.graph.now) (is_ok c.push.result) c.expanded.new.self.made.items c.push.new.self.items c.in-Ok-Some.made c.push.ensures.items
    (all_stay rules (s.stands c.args.main.now) (s.stands c.args.self.now.system) (s.stands c.expanded.new.self.system) c.args.graph.now c.expanded.new.self.made.items c.requires.known c.expanded.ensures.stays before)
    (subst (λ (o : Option Made). IfSome o (IsMade rules (s.stands c.args.main.now) (s.stands c.expanded.new.self.system) c.args.graph.now)) c.in-Ok-Some.field-0-is c.in-Ok-Some.ensures.made)

pub returns-in_default-clause-made : goal.returns-in_default-clause-made
returns-in_default-clause-made g c =
    let s = g.S.System in
    let rules = s.rules (s.setting c.args.main.now) in
    all_stay rules (s.stands c.args.main.now) (s.stands c.args.self.now.system) (s.stands c.expanded.new.self.system) c.args.graph.now c.expanded.new.self.made.items c.requires.known c.expanded.ensures.stays
    (subst (λ (l : List Made). All (IsMade rules (s.stands c.args.main.now) (s.stands c.args.self.now.system) c.args.graph.now) l) (sym c.expanded.ensures.same) c.requires.made)

pub returns-in_default-2-clause-made : goal.returns-in_default-2-clause-made
returns-in_default-2-clause-made g c =
    let s = g.S.System in
    let rules = s.rules (s.setting c.args.main.now) in
    all_stay rules (s.stands c.args.main.now) (s.stands c.args.self.now.system) (s.stands c.expanded.new.self.system) c.args.graph.now c.expanded.new.self.made.items c.requires.known c.expanded.ensures.stays
    (subst (λ (l : List Made). All (IsMade rules (s.stands c.args.main.now) (s.stands c.args.self.now.system) c.args.graph.now) l) (sym c.expanded.ensures.same) c.requires.made)
