use Rattle.std.proofs.Common.{◌≡◌, ◌∙◌, Ok, true, ap}
use Rattle.kernel_check.proofs.Leading.{leads_on}
use Rattle.kernel_check.proofs.walks.follow.Goals as goal

pub loop-event-preserved : goal.loop-event-preserved
loop-event-preserved c =
    let before = c.loop-event.invariant in
    let came : c.add_event.result ≡ Ok true = c.in_ok-add_event.was ∙ ap Ok c.if-not-branch.false in
    record {
      leads = leads_on c.args.explored.now.asked c.args.board.now.board c.loop-event.board.board c.add_event.new.board.board before.leads (c.add_event.ensures.leads came);
      size = c.add_event.ensures.size ∙ before.size;
    }
