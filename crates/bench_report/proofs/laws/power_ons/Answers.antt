use Rattle.bench_report.proofs.PowerOns.{finds, sure, finds_all, resumed_from}
use Rattle.bench_report.proofs.laws.power_ons.Goals as goal

pub returns-clause-finds : goal.returns-clause-finds
returns-clause-finds c = λ payloads script answers b h disk_state mode a new d move reported. finds script.size mode b a new d disk_state move reported

pub returns-clause-sure : goal.returns-clause-sure
returns-clause-sure c = sure

pub returns-clause-all : goal.returns-clause-all
returns-clause-all c = λ payloads script answers b by h disk_state none mode a new move lost failure_free_bench. finds_all payloads script answers b mode a new by h disk_state none move lost failure_free_bench

pub returns-clause-resumes : goal.returns-clause-resumes
returns-clause-resumes c = λ payloads script answers b h disk_state a new move line. resumed_from script.size b a new disk_state move line
