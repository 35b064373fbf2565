use Rattle.bench_report.proofs.Prefixed.{prefix_law, end_law}
use Rattle.bench_report.proofs.laws.prefix_law.Goals as goal

pub returns-clause-law : goal.returns-clause-law
returns-clause-law c = prefix_law

pub returns-clause-ends : goal.returns-clause-ends
returns-clause-ends c = end_law
