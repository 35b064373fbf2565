use Rattle.bench_report.specs.Lives.{IsSound}
use Rattle.bench_program.proofs.traps.first_trap.Given as goal

abbrev pub invariant-loop : goal.invariant-loop
invariant-loop g l = IsSound l.live
