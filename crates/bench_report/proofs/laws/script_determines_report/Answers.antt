use Rattle.bench_report.proofs.{Single.script_determines_report, FailureFree.failure_free_bench}
use Rattle.bench_report.proofs.laws.script_determines_report.Goals as goal

pub returns-clause-one : goal.returns-clause-one
returns-clause-one c = λ payloads script answers others end last by x y u v. script_determines_report (record { one = c.content_determines_state.ensures.one; marked = c.content_determines_state.ensures.marked; inspected = c.content_determines_inspection.ensures; in_order = c.formats_in_order.ensures }) c.machine_determines_turn.ensures.turn c.machine_determines_turn.ensures.call c.hart_determines_line.ensures payloads script answers others end last by x y u v

pub returns-clause-failure_free : goal.returns-clause-failure_free
returns-clause-failure_free c = failure_free_bench
