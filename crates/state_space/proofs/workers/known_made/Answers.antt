use Rattle.std.proofs.Common.{◌∙◌, refl}
use Rattle.state_space.proofs.Carrying.{made_carried, made_known}
use Rattle.state_space.proofs.workers.known_made.Goals as goal

pub know_all-requires-clause-stands : goal.know_all-requires-clause-stands
know_all-requires-clause-stands g c κs within =
    let s = g.S.System in
    made_known (s.rules (s.setting c.args.main.now)) (s.stands c.args.main.now) (s.stands c.args.system.now) c.args.graph.now c.args.made c.requires.known c.requires.made c.requires.own

pub returns : goal.returns
returns g c =
    let s = g.S.System in
    made_carried (s.rules (s.setting c.args.main.now)) (s.stands c.args.main.now) (s.stands c.args.system.now) c.args.graph.now c.args.made _ c.requires.made c.requires.own refl refl refl
    (c.in_ok-know_all.ensures.carried (cc (c.if-not-branch.false)))
    (c.know_all.ensures.width ∙ (c.blank-known.ensures.width ∙ c.row.ensures.width))
    c.in_ok-find_targets.ensures
