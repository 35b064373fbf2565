use Rattle.std.proofs.Common.{◌∙◌, sym}
use Rattle.bench_schedules.proofs.search.differs_there.Goals as goal

pub run_until-requires-clause-ranges : goal.run_until-requires-clause-ranges
run_until-requires-clause-ranges g c = λ lives within. c.requires.order.ranges c.args.search.now.setting.shape.now c.requires.searchable.ranges

pub run_until-requires-clause-count : goal.run_until-requires-clause-count
run_until-requires-clause-count g c = λ lives within. c.requires.searchable.count ∙ sym (c.orders_keep_lines.ensures c.args.search.now.lines.now c.args.lines.now c.requires.order.order)
