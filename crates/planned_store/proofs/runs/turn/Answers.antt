use Rattle.std.proofs.Common.{◌≡◌, ◌∙◌, rules, subst}
use Rattle.planned_store.{specs.{Served.IsServed, declared.plans.Request.{Request, TheVariants.Done}}, proofs.Steps.goes_on}
use Rattle.planned_store.proofs.Bounds.{goes_fewer, goes_task}
use Rattle.planned_store.proofs.runs.turn.Goals as goal

pub returns-clause-goes : goal.returns-clause-goes
returns-clause-goes g c start at =
    let served = subst (λ (q : Request). IsServed q c.asks-request.new.sector (g.D.Disk.facts c.args.disk.now) (g.D.Disk.facts c.serve-answer.new.disk) (g.D.Disk.fault_state c.args.disk.now) (g.D.Disk.fault_state c.serve-answer.new.disk) c.serve-answer.result c.serve-answer.new.sector) c.asks-request.ensures.asked c.serve-answer.ensures.served in
    goes_on g.D.Disk.facts g.D.Disk.fault_state start c.args.disk.now c.serve-answer.new.disk c.args.plan.now c.told.result c.serve-answer.result c.asks-request.new.sector c.serve-answer.new.sector at c.asks-request.ensures.bytes served c.told.ensures

pub returns-clause-fewer : goal.returns-clause-fewer
returns-clause-fewer g c is =
    let more : c.asks-request.result ≡ Done → ⊥ = search rules in
    goes_fewer c.args.plan.now c.told.result c.serve-answer.result c.serve-answer.new.sector (λ done. more (c.asks-request.ensures.asked ∙ done)) c.told.ensures

pub returns-clause-task : goal.returns-clause-task
returns-clause-task g c =
    let more : c.asks-request.result ≡ Done → ⊥ = search rules in
    goes_task c.args.plan.now c.told.result c.serve-answer.result c.serve-answer.new.sector (λ done. more (c.asks-request.ensures.asked ∙ done)) c.told.ensures
