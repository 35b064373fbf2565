use Rattle.std.proofs.Common.{rules}
use Rattle.disk.proofs.synced.write_synced.Goals as goal

pub returns-clause-durable : goal.returns-clause-durable
returns-clause-durable g c = search rules

pub returns-clause-called : goal.returns-clause-called
returns-clause-called g c = search rules
