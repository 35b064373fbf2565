use Rattle.std.proofs.lemmas.Result.{IfOk-from_err}
use Rattle.board_model.proofs.Exits.{err_exit}
use Rattle.script_lang.proofs.writing.write_script.Goals as goal

pub returns-in_err-write_board-clause-ok : goal.returns-in_err-write_board-clause-ok
returns-in_err-write_board-clause-ok g c = IfOk-from_err c.from_residual.result _ c.from_residual.ensures.0

pub returns-in_err-write_board-clause-err : goal.returns-in_err-write_board-clause-err
returns-in_err-write_board-clause-err g c = err_exit _ c.from_residual.result c.in_err-write_board.field-0.0 c.from_residual.ensures.1 c.in_err-write_board.ensures.err
