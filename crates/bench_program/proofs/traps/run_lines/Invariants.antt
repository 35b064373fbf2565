use Rattle.bench_report.specs.Lives.{IsSound}
use Rattle.bench_program.proofs.traps.run_lines.Given as goal

abbrev pub invariant-loop-line : goal.invariant-loop-line
invariant-loop-line g l = IsSound l.live
