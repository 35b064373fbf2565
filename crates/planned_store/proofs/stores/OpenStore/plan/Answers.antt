use Rattle.std.proofs.Common.{[], ap}
use Rattle.planned_store.specs.declared.plans.Plan.TheVariants.{Committing}
use Rattle.planned_store.proofs.stores.OpenStore.plan.Goals as goal

pub returns-clause-ok : goal.returns-clause-ok
returns-clause-ok c = record {
  next = c.in_ok-next.next;
  is = ap Committing c.new.ensures;
  going = c.in_ok-takes.ensures.ok.1;
  room = c.in_ok-takes.ensures.ok.2;
  allowed = λ size content. (c.in_ok-next.ensures.ok size content).0;
  follows = λ size. (c.in_ok-next.ensures.ok size []).1;
}
