use Rattle.std.proofs.Common.{◌≡◌, ◌∙◌, ◌<◌, subst}
use Rattle.planned_store.specs.{Commits.Answer, Plans.Goes, declared.plans.Plan.Plan}
use Rattle.sbistore.{specs.Next.IsAnswer, proofs.Packed.{some_is, goes_sound}}
use Rattle.sbistore.proofs.sbistore_next.Goals as goal

pub returns-clause-plans : goal.returns-clause-plans
returns-clause-plans c plan packed =
    let next = c.gone_on-plan.result in
    let same : c.in-Some.plan ≡ plan = some_is _ _ (c.in-Some.ensures.exact plan packed) in
    let first : c.args.store.now.asked ≡ 0 → next ≡ plan = λ none. c.gone_on-plan.ensures.first none ∙ same in
    let told : 0 < c.args.store.now.asked → (r : Answer) × IsAnswer c.args.failed r × Goes plan r c.args.sector.now next =
    λ some. let t = c.gone_on-plan.ensures.told some in (t.0, t.1, subst (λ (p : Plan). Goes p t.0 c.args.sector.now next) same t.2) in
    let sound = goes_sound plan next c.args.store.now c.args.sector.now (λ r. IsAnswer c.args.failed r) packed first told in
    record {
      next = next;
      first = first;
      told = told;
      bytes = c.ask.ensures.bytes;
      asks = c.ask.ensures.asks sound;
      ends = c.ask.ensures.ends sound;
      keeps = c.ask.ensures.keeps;
    }
