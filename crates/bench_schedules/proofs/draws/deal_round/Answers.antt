use Rattle.std.proofs.lemmas.Result.{IfOk-from_err}
use Rattle.bench_schedules.proofs.draws.deal_round.Goals as goal

pub returns-in_err-give : goal.returns-in_err-give
returns-in_err-give c = IfOk-from_err c.from_residual.result _ c.from_residual.ensures.0
