use Rattle.bench_report.proofs.live.LiveBench.end.Goals as goal

pub returns-clause-after : goal.returns-clause-after
returns-clause-after c = c.replace_with.ensures.0

pub returns-clause-disk : goal.returns-clause-disk
returns-clause-disk c = c.replace_with.ensures.1
