use Rattle.std.proofs.Common.{rules}
use Rattle.susp.proofs.buses.wake.Goals as goal

pub returns-clause-ok : goal.returns-clause-ok
returns-clause-ok c = search rules
