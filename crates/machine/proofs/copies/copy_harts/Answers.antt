use Rattle.std.proofs.{Common.{◌∙◌}, lemmas.{List.get_or_read, Result.err_from_is_err_and}}
use Rattle.machine.proofs.{Refused.{is_memory, nothing_made}, Rows.copied_more}
use Rattle.machine.proofs.copies.copy_harts.Goals as goal

pub loop-hart-init : goal.loop-hart-init
loop-hart-init c = c.new-copies.ensures.items

pub returns-in_err-push-clause-same : goal.returns-in_err-push-clause-same
returns-in_err-push-clause-same c = let p = err_from_is_err_and c.from_residual.result c.from_residual.ensures.1 in nothing_made _ _ _ p.1

pub returns-in_err-push-clause-refused : goal.returns-in_err-push-clause-refused
returns-in_err-push-clause-refused c = let p = err_from_is_err_and c.from_residual.result c.from_residual.ensures.1 in is_memory _ _ p.1 p.2

pub returns-clause-refused : goal.returns-clause-refused
returns-clause-refused c = tt

pub loop-hart-preserved : goal.loop-hart-preserved
loop-hart-preserved c = copied_more c.loop-hart.copies.items _ c.args.harts.now c.loop-hart.hart-index c.copy.result c.in_ok-push.ensures.items c.loop-hart.invariant c.loop-hart-test.true
    (c.copy.ensures ∙ get_or_read c.args.harts.now c.loop-hart.hart-index c.hart-item.result c.loop-hart-test.true c.hart-item.is c.copy.result)
