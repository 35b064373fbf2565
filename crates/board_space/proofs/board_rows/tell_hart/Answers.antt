use Rattle.std.proofs.{Common.{◌∙◌, sym}, lemmas.Result.IfOk-weaker}
use Rattle.hart.specs.State.{never_started}
use Rattle.board_space.proofs.Numbers.{at_same, stopped_at}
use Rattle.board_space.proofs.board_rows.tell_hart.Goals as goal

pub returns-in-Off-clause-put : goal.returns-in-Off-clause-put
returns-in-Off-clause-put c =
    rw c.in-Off.is
    (IfOk-weaker c.put_near-in-Off.result _ _
    (λ n put. at_same c.put_near-in-Off.new.self.records.items n c.stopped.result _ put (c.stopped.ensures ∙ sym (stopped_at c.args.board.now.machine.size.harts c.args.hart (never_started c.args.hart) c.requires)))
    c.put_near-in-Off.ensures.put)

pub returns-in-Ended-clause-put : goal.returns-in-Ended-clause-put
returns-in-Ended-clause-put c =
    rw c.in-Ended.is
    (IfOk-weaker c.put_near-in-Ended.result _ _
    (λ n put. at_same c.put_near-in-Ended.new.self.records.items n c.stopped-in-Ended.result _ put (c.stopped-in-Ended.ensures ∙ sym (stopped_at c.args.board.now.machine.size.harts c.args.hart (never_started c.args.hart) c.requires)))
    c.put_near-in-Ended.ensures.put)
