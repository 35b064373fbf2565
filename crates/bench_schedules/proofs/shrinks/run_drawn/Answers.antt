use Rattle.bench_schedules.proofs.shrinks.run_drawn.Goals as goal

pub run_until-requires-clause-ranges : goal.run_until-requires-clause-ranges
run_until-requires-clause-ranges g c = λ lives within. c.requires.order.ranges c.args.setting.now.shape.now c.requires.searchable.ranges
