use Rattle.std.proofs.lemmas.Result.{IfOk-from_err}
use Rattle.bench_sweep.proofs.shown.script_lines.Goals as goal

pub returns-in_err-add_lines : goal.returns-in_err-add_lines
returns-in_err-add_lines c = IfOk-from_err c.from_residual.result _ c.from_residual.ensures.0

pub returns-in_err-add_lines-2 : goal.returns-in_err-add_lines-2
returns-in_err-add_lines-2 c = IfOk-from_err c.from_residual-in_err-add_lines-2.result _ c.from_residual-in_err-add_lines-2.ensures.0

pub returns-in_err-push : goal.returns-in_err-push
returns-in_err-push c = IfOk-from_err c.from_residual-in_err-push.result _ c.from_residual-in_err-push.ensures.0

pub returns-in_err-push-in-Fails : goal.returns-in_err-push-in-Fails
returns-in_err-push-in-Fails c = IfOk-from_err c.from_residual-in_err-push-in-Fails.result _ c.from_residual-in_err-push-in-Fails.ensures.0
