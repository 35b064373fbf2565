use Rattle.std.proofs.lemmas.Result.{IfOk-from_err}
use Rattle.bench_schedules.proofs.deal.add_turns.Goals as goal

pub returns-in_err-push-clause-named : goal.returns-in_err-push-clause-named
returns-in_err-push-clause-named c = IfOk-from_err c.from_residual.result _ c.from_residual.ensures.0

pub returns-in_err-push-2-clause-named : goal.returns-in_err-push-2-clause-named
returns-in_err-push-2-clause-named c = IfOk-from_err c.from_residual-in_err-push-2.result _ c.from_residual-in_err-push-2.ensures.0
