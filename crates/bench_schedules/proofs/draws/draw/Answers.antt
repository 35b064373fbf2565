use Rattle.std.proofs.lemmas.Result.{IfOk-from_err, on_ok_weaker}
use Rattle.bench_schedules.proofs.Deals.{goes_on_twice}
use Rattle.bench_schedules.proofs.draws.draw.Goals as goal

pub returns-in_err-deal_before : goal.returns-in_err-deal_before
returns-in_err-deal_before g c = IfOk-from_err c.from_residual.result _ c.from_residual.ensures.0

pub returns-in_err-deal_slices : goal.returns-in_err-deal_slices
returns-in_err-deal_slices g c = IfOk-from_err c.from_residual-in_err-deal_slices.result _ c.from_residual-in_err-deal_slices.ensures.0

pub returns : goal.returns
returns g c = on_ok_weaker c.deal_fairly.result (goes_on_twice _ _ _ (goes_on_twice _ _ _ c.in_ok-deal_before.ensures c.in_ok-deal_slices.ensures)) c.deal_fairly.ensures
