use Rattle.std.proofs.Common.{◌≡◌, ℕ}
use Rattle.bench_schedules.specs.{Orders.left_of, Deals.GoesOn}
use Rattle.bench_schedules.proofs.deal.Deal.rest_of.Given as goal

abbrev pub invariant-loop-self : goal.invariant-loop-self
invariant-loop-self l = record {
  goes_on : GoesOn l.initial.self l.self;
  others : (h : ℕ) → (h ≡ l.hart → ⊥) → left_of h l.self.left ≡ left_of h l.initial.self.left;
}

abbrev pub decreases-loop-self : goal.decreases-loop-self
decreases-loop-self l = left_of l.hart l.self.left
