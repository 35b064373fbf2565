use Rattle.report_lines.proofs.Seeing.{open_refused}
use Rattle.report_lines.proofs.sees.find.Goals as goal

pub returns-in-Err-clause-refused : goal.returns-in-Err-clause-refused
returns-in-Err-clause-refused g c =
    rw c.unrecorded.ensures (open_refused (g.D.Disk.facts c.args.disk) (g.D.Disk.facts c.in-Err.disk) c.in-Err.refusal c.in-Err.ensures.refused)
