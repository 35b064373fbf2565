use Rattle.std.proofs.Common.{rules}
use Rattle.command_line.proofs.fault.ToldByDisplay.fmt.Goals as goal

pub returns-in-File-clause-writes : goal.returns-in-File-clause-writes
returns-in-File-clause-writes g c = search rules
