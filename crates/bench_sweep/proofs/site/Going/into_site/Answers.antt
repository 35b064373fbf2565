use Rattle.std.proofs.Common.{refl}
use Rattle.bench_sweep.proofs.{Left.off_runs, Took.disk_is}
use Rattle.bench_sweep.proofs.site.Going.into_site.Goals as goal

pub returns-clause-runs : goal.returns-clause-runs
returns-clause-runs c = λ size b r. off_runs size b c.args.self _ r (c.disk_left-disk.ensures.reported size b r.agrees) refl refl

pub returns-clause-disk : goal.returns-clause-disk
returns-clause-disk c = disk_is c.args.self.bench.power _ c.disk_left-disk.ensures.disk
