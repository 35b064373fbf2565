use Rattle.bench_schedules.specs.Deals.{GoesOn}
use Rattle.bench_schedules.proofs.draws.deal_slices.Given as goal

abbrev pub invariant-slices : goal.invariant-slices
invariant-slices g l = GoesOn l.initial.deal l.deal
