use Rattle.bench_sweep.proofs.sweeps.write_swept.Goals as goal

pub returns : goal.returns
returns g c = record { wrote = (c.in_ok-all.ensures.wrote _ c.in_ok-write_sweep.ensures.ok) }
