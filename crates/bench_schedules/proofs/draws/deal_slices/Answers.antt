use Rattle.std.proofs.lemmas.Result.{IfOk-from_err}
use Rattle.bench_schedules.proofs.Deals.{goes_on_twice}
use Rattle.bench_schedules.proofs.draws.deal_slices.Goals as goal

pub returns-in_err-deal_one : goal.returns-in_err-deal_one
returns-in_err-deal_one g c = IfOk-from_err c.from_residual.result _ c.from_residual.ensures.0

pub slices-preserved : goal.slices-preserved
slices-preserved g c = goes_on_twice _ _ _ c.slices.invariant c.in_ok-deal_one.ensures
