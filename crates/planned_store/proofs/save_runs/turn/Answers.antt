use Rattle.std.proofs.Common.{◌≡◌, ◌∙◌, rules, subst}
use Rattle.planned_store.specs.{SaveServed.IsSaveServed, declared.requests.ImageRequest.{ImageRequest, TheVariants.Done}}
use Rattle.planned_store.proofs.{SaveBounds.goes_fewer, SaveSteps.goes_on}
use Rattle.planned_store.proofs.save_runs.turn.Goals as goal

pub returns-clause-goes : goal.returns-clause-goes
returns-clause-goes g c start at =
    let served = subst (λ (q : ImageRequest). IsSaveServed q c.asks-request.new.sector c.args.ram.now (g.D.Disk.facts c.args.disk.now) (g.D.Disk.facts c.serve-answer.new.disk) (g.D.Disk.fault_state c.args.disk.now) (g.D.Disk.fault_state c.serve-answer.new.disk) c.serve-answer.result) c.asks-request.ensures.asked c.serve-answer.ensures.served in
    goes_on g.D.Disk.facts g.D.Disk.fault_state start c.args.disk.now c.serve-answer.new.disk c.args.plan.now c.serve-answer.result c.asks-request.new.sector c.args.ram.now at c.told.new.self c.asks-request.ensures.bytes served c.told.ensures.goes

pub returns-clause-fewer : goal.returns-clause-fewer
returns-clause-fewer g c is =
    let more : c.asks-request.result ≡ Done → ⊥ = search rules in
    goes_fewer c.args.plan.now c.requires.page c.told.new.self c.serve-answer.result (λ done. more (c.asks-request.ensures.asked ∙ done)) c.told.ensures.goes
