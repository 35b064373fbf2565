use Rattle.bench_report.specs.Lives.{IsSound}
use Rattle.debug_session.proofs.orders.busy_along.Given as goal

abbrev pub invariant-loop-line : goal.invariant-loop-line
invariant-loop-line g l = record { sound : IsSound l.bench }
