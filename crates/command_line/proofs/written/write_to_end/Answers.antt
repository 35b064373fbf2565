use Rattle.std.proofs.Common.{rules}
use Rattle.command_line.proofs.written.write_to_end.Goals as goal

pub returns-clause-flushed : goal.returns-clause-flushed
returns-clause-flushed g c = search rules
