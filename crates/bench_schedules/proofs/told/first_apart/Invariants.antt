use Rattle.bench_schedules.proofs.Aparts.{AreAlike}
use Rattle.bench_schedules.proofs.told.first_apart.Given as goal

abbrev pub invariant-loop-place : goal.invariant-loop-place
invariant-loop-place l = AreAlike l.own l.other l.place
