use Rattle.bench_schedules.specs.Deals.{GoesOn}
use Rattle.bench_schedules.proofs.draws.deal_round.Given as goal

abbrev pub invariant-loop-number : goal.invariant-loop-number
invariant-loop-number l = GoesOn l.initial.deal l.deal
