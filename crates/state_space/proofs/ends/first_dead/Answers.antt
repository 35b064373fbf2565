use Rattle.std.proofs.{Common.{◌≡◌, ◌<◌, false, length, get_or, rules, arith}, lemmas.Grind.common_steps}
use Rattle.state_space.proofs.Dead.{dead_row}
use Rattle.state_space.proofs.ends.first_dead.Goals as goal

pub returns-then-not-index-clause-dead : goal.returns-then-not-index-clause-dead
returns-then-not-index-clause-dead g c =
    let within : c.loop-row.row < length c.in_ok-marks.marks.items = first_of (search rules, grind (arith, common_steps)) in
    let none : get_or c.in_ok-marks.marks.items c.loop-row.row false ≡ false = first_of (search rules, grind (arith, common_steps)) in
    dead_row (g.S.System.rules (g.S.System.setting c.args.system.now)).goes c.args.graph.now c.args.goals.now c.in_ok-marks.marks.items c.loop-row.row
    c.in_ok-marks.ensures.stuck c.requires.whole c.in_ok-marks.ensures.each within none
