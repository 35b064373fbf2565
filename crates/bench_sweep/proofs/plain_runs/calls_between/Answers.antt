use Rattle.std.proofs.Common.{arith}
use Rattle.bench_sweep.proofs.plain_runs.calls_between.Goals as goal

pub returns-clause-calls : goal.returns-clause-calls
returns-clause-calls c = omega (arith, c.if-after-before.false, c.calls-before.ensures, c.calls-after.ensures)

pub returns-clause-below : goal.returns-clause-below
returns-clause-below c = omega (arith, c.calls-after.ensures)
