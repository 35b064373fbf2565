use Rattle.bench_report.proofs.Found.{all_found}
use Rattle.bench_report.proofs.laws.all_are_found.Goals as goal

pub returns : goal.returns
returns c = all_found
