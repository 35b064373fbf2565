use Rattle.bench_schedules.specs.Deals.{GoesOn}
use Rattle.bench_schedules.proofs.draws.deal_fairly.Given as goal

abbrev pub invariant-loop-round : goal.invariant-loop-round
invariant-loop-round l = GoesOn l.initial.deal l.deal
