use Rattle.std.proofs.lemmas.Result.{IfOk-from_err}
use Rattle.debug_session.proofs.script.add_begins.Goals as goal

pub returns-in_err-add_begin : goal.returns-in_err-add_begin
returns-in_err-add_begin c = IfOk-from_err c.from_residual.result _ c.from_residual.ensures.0

pub returns-in_err-add_begin-2 : goal.returns-in_err-add_begin-2
returns-in_err-add_begin-2 c = IfOk-from_err c.from_residual-in_err-add_begin-2.result _ c.from_residual-in_err-add_begin-2.ensures.0

pub returns-in_err-add_begin-3 : goal.returns-in_err-add_begin-3
returns-in_err-add_begin-3 c = IfOk-from_err c.from_residual-in_err-add_begin-3.result _ c.from_residual-in_err-add_begin-3.ensures.0
