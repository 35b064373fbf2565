use Rattle.bench_report.proofs.RunLines.{split_report}
use Rattle.bench_report.proofs.laws.reports_split.Goals as goal

pub returns : goal.returns
returns c = split_report
