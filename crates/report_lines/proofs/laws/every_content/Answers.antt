use Rattle.report_lines.proofs.Contents.{answered, examined}
use Rattle.report_lines.proofs.laws.every_content.Goals as goal

pub returns-clause-opened : goal.returns-clause-opened
returns-clause-opened c = answered

pub returns-clause-examined : goal.returns-clause-examined
returns-clause-examined c = examined
