use Rattle.std.proofs.lemmas.Result.{IfOk-from_err}
use Rattle.bench_schedules.proofs.deal.Deal.rest_of.Goals as goal

pub returns-in_err-give-clause-goes_on : goal.returns-in_err-give-clause-goes_on
returns-in_err-give-clause-goes_on c = IfOk-from_err c.from_residual.result _ c.from_residual.ensures.0

pub returns-in_err-give-clause-dealt : goal.returns-in_err-give-clause-dealt
returns-in_err-give-clause-dealt c = IfOk-from_err c.from_residual.result _ c.from_residual.ensures.0

pub returns-in_err-give-clause-others : goal.returns-in_err-give-clause-others
returns-in_err-give-clause-others c = IfOk-from_err c.from_residual.result _ c.from_residual.ensures.0
