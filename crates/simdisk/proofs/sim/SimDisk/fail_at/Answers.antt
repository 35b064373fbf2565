use Rattle.std.proofs.Common.{rules}
use Rattle.simdisk.proofs.sim.SimDisk.fail_at.Goals as goal

pub returns-clause-armed : goal.returns-clause-armed
returns-clause-armed c = search rules

pub returns-clause-call : goal.returns-clause-call
returns-clause-call c = search rules
