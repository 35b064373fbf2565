use Rattle.kernel_check.proofs.Leading.{leads_on, leads_once}
use Rattle.kernel_check.proofs.walks.add_event.Goals as goal

pub returns-clause-leads : goal.returns-clause-leads
returns-clause-leads c = λ _.
    let asked = c.args.explored.now.asked in
    let from = c.args.board.now.board in
    let mid = c.replay.new.board.board in
    leads_on asked from mid c.add_settling.new.board.board (leads_once asked c.args.event from mid (c.replay.ensures.happens c.if-not-replay.false))
    c.add_settling.ensures.leads
