use Rattle.bench_report.proofs.Idles.{idle_turn_stays}
use Rattle.bench_report.proofs.row_laws.idle_turns_change_nothing.Goals as goal

pub returns : goal.returns
returns c = idle_turn_stays
