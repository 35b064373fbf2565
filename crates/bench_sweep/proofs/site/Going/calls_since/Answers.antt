use Rattle.std.proofs.Common.{arith}
use Rattle.bench_sweep.proofs.site.Going.calls_since.Goals as goal

pub returns : goal.returns
returns c = record { calls = (c.disk_of.result.now, c.disk_of.ensures, omega (arith, c.if-after-before.false, c.calls-before.ensures, c.calls-after.ensures)) }
