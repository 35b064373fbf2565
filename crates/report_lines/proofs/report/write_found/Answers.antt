use Rattle.board_model.proofs.Written.{unwritten}
use Rattle.report_lines.proofs.report.write_found.Goals as goal

pub returns-in-None : goal.returns-in-None
returns-in-None g c = record { ok = rw c.in-None.is (unwritten _) }
