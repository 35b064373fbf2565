use Rattle.std.proofs.Common.{◌∙◌}
use Rattle.kernel_check.proofs.Leading.{leads_on}
use Rattle.kernel_check.proofs.walks.add_settling.Goals as goal

pub returns-in_err-add_run-clause-leads : goal.returns-in_err-add_run-clause-leads
returns-in_err-add_run-clause-leads c =
    let before = c.loop-number.invariant in
    leads_on c.args.explored.now.asked c.args.board.now.board c.loop-number.board.board c.settle-turns.new.board.board before.leads
    (c.settle-turns.ensures.turns (before.size ∙ c.requires))

pub loop-number-preserved : goal.loop-number-preserved
loop-number-preserved c =
    let before = c.loop-number.invariant in
    record {
      leads = leads_on c.args.explored.now.asked c.args.board.now.board c.loop-number.board.board c.settle-turns.new.board.board before.leads (c.settle-turns.ensures.turns (before.size ∙ c.requires));
      size = c.settle-turns.ensures.size ∙ before.size;
    }
