use Rattle.std.proofs.lemmas.Result.{IfOk-from_err}
use Rattle.bench_schedules.proofs.draws.deal_fairly.Goals as goal

pub returns-in_err-deal_round : goal.returns-in_err-deal_round
returns-in_err-deal_round c = IfOk-from_err c.from_residual.result _ c.from_residual.ensures.0
