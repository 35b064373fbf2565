use Rattle.std.proofs.Common.{rules}
use Rattle.report_lines.proofs.memory.write_memory.Goals as goal

pub returns-clause-written : goal.returns-clause-written
returns-clause-written g c = search rules
