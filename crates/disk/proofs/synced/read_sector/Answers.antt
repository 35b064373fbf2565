use Rattle.std.proofs.Common.{rules}
use Rattle.disk.proofs.synced.read_sector.Goals as goal

pub returns-clause-found : goal.returns-clause-found
returns-clause-found g c = search rules
