use Rattle.std.proofs.lemmas.Result.{IfOk-from_err}
use Rattle.bench_sweep.proofs.shown.check_ended.Goals as goal

pub returns-in_err-turn_off-in-Cuts : goal.returns-in_err-turn_off-in-Cuts
returns-in_err-turn_off-in-Cuts c = record { ended = (IfOk-from_err c.from_residual.result _ c.from_residual.ensures.0) }

pub returns-in_err-turn_off_failed-in-Fails : goal.returns-in_err-turn_off_failed-in-Fails
returns-in_err-turn_off_failed-in-Fails c = record { ended = (IfOk-from_err c.from_residual-in_err-turn_off_failed-in-Fails.result _ c.from_residual-in_err-turn_off_failed-in-Fails.ensures.0) }
