use Rattle.std.proofs.Common.{sym, ◌∙◌}
use Rattle.bench_sweep.proofs.Ran.{struck_stops}
use Rattle.bench_sweep.proofs.site.Going.stops.Goals as goal

pub returns-then-is_struck-clause-off : goal.returns-then-is_struck-clause-off
returns-then-is_struck-clause-off c = λ stops. struck_stops c.args.self.now.bench.power _ c.if-is_struck.true c.is_struck.ensures.exact

pub returns-then-until_off-clause-exact : goal.returns-then-until_off-clause-exact
returns-then-until_off-clause-exact c = λ goes size b agrees. sym (c.is_struck.ensures.exact size b agrees) ∙ c.if-is_struck.false

pub returns-else-until_off-clause-exact : goal.returns-else-until_off-clause-exact
returns-else-until_off-clause-exact c = λ goes size b agrees. sym (c.is_struck.ensures.exact size b agrees) ∙ c.if-is_struck.false

pub returns-then-is_struck-clause-struck : goal.returns-then-is_struck-clause-struck
returns-then-is_struck-clause-struck c = λ stops until size b agrees. sym (c.is_struck.ensures.exact size b agrees) ∙ c.if-is_struck.true
