use Rattle.std.proofs.Common.{Ok, subst}
use Rattle.script_lang.specs.{Scripts.Script, Views.view}
use Rattle.bench_schedules.specs.Orders.{IsScheduleOf}
use Rattle.sbigdb.proofs.{Partings.same_script, Founds.begins_schedule}
use Rattle.sbigdb.proofs.begins.schedule_to.Goals as goal

pub script_to-requires-clause-order : goal.script_to-requires-clause-order
script_to-requires-clause-order g c =
    let found = c.in_ok-found.ensures.found in
    subst (λ (s : Script). IsScheduleOf s (view c.in_ok-found.found)) (same_script _ _ _ found.1 c.requires.read) found.2

pub returns-clause-begins : goal.returns-clause-begins
returns-clause-begins g c =
    let found = c.in_ok-found.ensures.found in
    begins_schedule c.args.drawn c.args.script.now c.args.payloads.now c.args.own.now c.in_ok-found.found found.0 (Ok c.in_ok-begun.begun) found.1 c.requires.read found.2 c.in_ok-begun.ensures.board c.in_ok-begun.ensures.parts
