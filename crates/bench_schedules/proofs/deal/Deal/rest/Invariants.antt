use Rattle.std.proofs.Common.{◌≡◌, ◌<◌, ℕ}
use Rattle.bench_schedules.specs.{Orders.left_of, Deals.GoesOn}
use Rattle.bench_schedules.proofs.deal.Deal.rest.Given as goal

abbrev pub invariant-loop-number : goal.invariant-loop-number
invariant-loop-number l = record {
  goes_on : GoesOn l.initial.self l.self;
  dealt : (h : ℕ) → h < l.number → left_of h l.self.left ≡ 0;
}
