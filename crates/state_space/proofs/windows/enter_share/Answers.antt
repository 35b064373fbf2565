use Rattle.std.proofs.Common.{◌∙◌, sym, subst, arith}
use Rattle.state_space.{specs.Carried.IsMade, proofs.Carrying.{made_later, later_on}}
use Rattle.state_space.proofs.windows.enter_share.Goals as goal

pub enter-requires-clause-made : goal.enter-requires-clause-made
enter-requires-clause-made g c κs within =
    let s = g.S.System in
    let until = c.loop-made.invariant in
    let made = c.made-item.result in
    let at = subst (IsMade (s.rules (s.setting c.args.system.now)) (s.stands c.args.system.now) (s.stands c.args.from.now) c.args.graph.now) (sym c.made-item.is)
    (c.requires.made c.loop-made.made-index made (omega arith)) in
    subst (λ t. IsMade (s.rules t) (s.stands c.loop-made.system) (s.stands c.args.from.now) c.loop-made.graph made) (sym until.setting)
    (made_later (s.rules (s.setting c.args.system.now)) (s.stands c.args.system.now) (s.stands c.loop-made.system) (s.stands c.args.from.now) c.args.graph.now c.loop-made.graph made c.requires.searched until.later at)

pub returns-then-not-branch-clause-later : goal.returns-then-not-branch-clause-later
returns-then-not-branch-clause-later g c =
    let s = g.S.System in
    later_on (s.stands c.args.system.now) (s.stands c.loop-made.system) (s.stands c.enter.new.system) c.args.graph.now c.loop-made.graph c.enter.new.graph c.loop-made.invariant.later c.in_ok-enter.ensures.later

pub loop-made-preserved : goal.loop-made-preserved
loop-made-preserved g c =
    let s = g.S.System in
    let until = c.loop-made.invariant in
    record {
      setting = c.enter.ensures.setting ∙ until.setting;
      searched = c.in_ok-enter.ensures.searched;
      later = later_on (s.stands c.args.system.now) (s.stands c.loop-made.system) (s.stands c.enter.new.system) c.args.graph.now c.loop-made.graph c.enter.new.graph until.later c.in_ok-enter.ensures.later;
      knows = c.enter.ensures.knows;
      width = c.in_ok-enter.ensures.width ∙ until.width;
      found_width = c.enter.ensures.found_width ∙ until.found_width;
    }
