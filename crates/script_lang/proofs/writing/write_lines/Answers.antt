use Rattle.std.proofs.lemmas.Result.{IfOk-from_err}
use Rattle.board_model.proofs.Exits.{err_exit}
use Rattle.script_lang.proofs.writing.write_lines.Goals as goal

pub returns-in_err-write_line-clause-ok : goal.returns-in_err-write_line-clause-ok
returns-in_err-write_line-clause-ok g c = IfOk-from_err c.from_residual.result _ c.from_residual.ensures.0

pub returns-in_err-write_line-clause-err : goal.returns-in_err-write_line-clause-err
returns-in_err-write_line-clause-err g c = err_exit _ c.from_residual.result c.in_err-write_line.field-0.0 c.from_residual.ensures.1 c.in_err-write_line.ensures.err
