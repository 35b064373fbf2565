use Rattle.bench_report.specs.Lives.{IsSound}
use Rattle.bench_program.proofs.traps.tell_while_running.Given as goal

abbrev pub invariant-loop-place : goal.invariant-loop-place
invariant-loop-place g l = IsSound l.live
