use Rattle.std.proofs.lemmas.Result.{IfOk-from_err}
use Rattle.bench_schedules.proofs.deal.Deal.rest.Goals as goal

pub returns-in_err-rest_of-clause-goes_on : goal.returns-in_err-rest_of-clause-goes_on
returns-in_err-rest_of-clause-goes_on c = IfOk-from_err c.from_residual.result _ c.from_residual.ensures.0

pub returns-in_err-rest_of-clause-dealt : goal.returns-in_err-rest_of-clause-dealt
returns-in_err-rest_of-clause-dealt c = IfOk-from_err c.from_residual.result _ c.from_residual.ensures.0
