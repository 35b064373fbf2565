use Rattle.std.proofs.Common.{rules}
use Rattle.report_lines.proofs.report.add.Goals as goal

pub returns-in_ok-push : goal.returns-in_ok-push
returns-in_ok-push g c = record { ok = (search rules) }

pub returns-in_default : goal.returns-in_default
returns-in_default g c = record { ok = (search rules) }
