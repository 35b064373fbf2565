use Rattle.bench_schedules.proofs.Deals.{all_dealt}
use Rattle.std.proofs.lemmas.Result.{IfOk-from_err}
use Rattle.bench_schedules.proofs.rows.order_of.Goals as goal

pub returns-clause-order : goal.returns-clause-order
returns-clause-order g c =
    all_dealt c.new-deal.result c.draw.new.deal c.rest.new.self c.turns_named-turns.result c.args.row.now c.new-deal.ensures.left c.new-deal.ensures.lines
    c.in_ok-draw.ensures c.in_ok-rest.ensures.goes_on c.in_ok-rest.ensures.dealt c.turns_named-turns.ensures.named c.turns_named-turns.ensures.others

pub returns-in_err-draw-clause-order : goal.returns-in_err-draw-clause-order
returns-in_err-draw-clause-order g c = IfOk-from_err c.from_residual.result _ c.from_residual.ensures.0

pub returns-in_err-draw-clause-few : goal.returns-in_err-draw-clause-few
returns-in_err-draw-clause-few g c = IfOk-from_err c.from_residual.result _ c.from_residual.ensures.0

pub returns-in_err-rest-clause-order : goal.returns-in_err-rest-clause-order
returns-in_err-rest-clause-order g c = IfOk-from_err c.from_residual-in_err-rest.result _ c.from_residual-in_err-rest.ensures.0

pub returns-in_err-rest-clause-few : goal.returns-in_err-rest-clause-few
returns-in_err-rest-clause-few g c = IfOk-from_err c.from_residual-in_err-rest.result _ c.from_residual-in_err-rest.ensures.0
