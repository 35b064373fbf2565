use Rattle.std.proofs.Common.{rules}
use Rattle.hart_threads.proofs.moments.Moments.add.Goals as goal

pub returns : goal.returns
returns g c = search rules
