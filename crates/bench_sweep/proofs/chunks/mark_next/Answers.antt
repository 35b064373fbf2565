use Rattle.bench_sweep.proofs.chunks.mark_next.Goals as goal

pub run_to-requires-clause-sits : goal.run_to-requires-clause-sits
run_to-requires-clause-sits g c κs within = let sits = c.requires.sits in (sits.0, c.args.site.now, sits.1)

pub returns-clause-sits : goal.returns-clause-sits
returns-clause-sits g c = let sits = c.requires.sits in (sits.0, c.in_ok-run_to.ensures.came sits.0 c.args.site.now sits.1)

pub run_to-requires-clause-few : goal.run_to-requires-clause-few
run_to-requires-clause-few g c κs within = c.requires.few

pub run_to-requires-clause-lines : goal.run_to-requires-clause-lines
run_to-requires-clause-lines g c κs within = c.requires.lines

pub run_to-requires-clause-order : goal.run_to-requires-clause-order
run_to-requires-clause-order g c κs within = c.requires.order
