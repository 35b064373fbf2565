use Rattle.bench_report.proofs.Joins.{rows_join}
use Rattle.bench_report.proofs.row_laws.rows_join.Goals as goal

pub returns : goal.returns
returns c = rows_join
