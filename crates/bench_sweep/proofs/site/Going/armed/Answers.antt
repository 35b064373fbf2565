use Rattle.std.proofs.Common.{refl}
use Rattle.bench_sweep.proofs.Left.{armed_runs}
use Rattle.bench_sweep.proofs.site.Going.armed.Goals as goal

pub returns-clause-runs : goal.returns-clause-runs
returns-clause-runs c = λ size b r. armed_runs size b c.args.self _ _ _ c.fault_at-fault.ensures r c.arm_power.ensures.reported refl refl
