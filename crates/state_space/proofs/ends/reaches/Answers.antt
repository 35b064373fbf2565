use Rattle.std.proofs.{Common.{◌≡◌, ◌<◌, ◌≤◌, true, false, get_or, subst, rules, arith}, lemmas.Grind.common_steps}
use Rattle.state_space.{specs.Graphs.{expanded_of, first_step, end_step, target_of}, proofs.Dead.reaches_by}
use Rattle.state_space.proofs.ends.reaches.Goals as goal

pub returns-then-marks-target-clause-reaches : goal.returns-then-marks-target-clause-reaches
returns-then-marks-target-clause-reaches g c told =
    let goes = (g.S.System.rules (g.S.System.setting c.args.system.now)).goes in
    let row : c.args.row < expanded_of c.args.graph.now = first_of (search rules, grind (arith, common_steps)) in
    let from : first_step c.args.graph.now c.args.row ≤ c.loop-step.step = first_of (search rules, grind (arith, common_steps)) in
    let to : c.loop-step.step < end_step c.args.graph.now c.args.row = first_of (search rules, grind (arith, common_steps)) in
    let marked : get_or c.args.marks.now (target_of c.args.graph.now c.loop-step.step) false ≡ true = first_of (search rules, grind (arith, common_steps)) in
    reaches_by goes c.args.graph.now c.args.goals.now c.args.marks.now c.args.row c.loop-step.step c.requires.reaching row from to
    (subst goes c.event.ensures (c.goes.ensures.goes c.if-goes.true))
    marked
