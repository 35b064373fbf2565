use Rattle.std.proofs.{Common.refl, lemmas.Result.IfOk-from_err}
use Rattle.bench_sweep.proofs.judging.repeat.Goals as goal

pub returns-clause-right : goal.returns-clause-right
returns-clause-right c = refl

pub returns-clause-runs : goal.returns-clause-runs
returns-clause-runs c = c.saturating_add-made.ensures

pub returns-in_default-clause-kept : goal.returns-in_default-clause-kept
returns-in_default-clause-kept c = tt

pub returns-in_default-clause-right : goal.returns-in_default-clause-right
returns-in_default-clause-right c = refl

pub returns-in_default-clause-runs : goal.returns-in_default-clause-runs
returns-in_default-clause-runs c = tt

pub returns-in_err-push-clause-kept : goal.returns-in_err-push-clause-kept
returns-in_err-push-clause-kept c = IfOk-from_err c.from_residual.result _ c.from_residual.ensures.0

pub returns-in_err-push-clause-right : goal.returns-in_err-push-clause-right
returns-in_err-push-clause-right c = refl

pub returns-in_err-push-clause-runs : goal.returns-in_err-push-clause-runs
returns-in_err-push-clause-runs c = IfOk-from_err c.from_residual.result _ c.from_residual.ensures.0
