use Rattle.std.proofs.Common.{rules, ◌<◌, ◌∙◌, length, sym}
use Rattle.debug_session.proofs.Histories.{place_at}
use Rattle.debug_session.proofs.counts.turn_after.Goals as goal

pub returns-in-Ok-clause-place : goal.returns-in-Ok-clause-place
returns-in-Ok-clause-place c =
    let p = c.in-Ok.found in
    let found = c.in-Ok.ensures.found in
    let less : c.loop-i.i < length c.args.lines.now = search rules in
    place_at p.0 c.loop-i.i p.1 found.0 c.args.lines.now c.index-lines-i.result less (sym c.index-lines-i.is ∙ found.1) found.2

pub returns-in-Ok-clause-none : goal.returns-in-Ok-clause-none
returns-in-Ok-clause-none c = tt

pub returns-clause-place : goal.returns-clause-place
returns-clause-place c = tt

pub returns-clause-others : goal.returns-clause-others
returns-clause-others c = tt
