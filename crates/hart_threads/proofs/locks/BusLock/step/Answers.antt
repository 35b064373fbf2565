use Rattle.std.proofs.Common.{refl}
use Rattle.hart_threads.proofs.locks.BusLock.step.Goals as goal

pub returns : goal.returns
returns g c = let s = c.step.ensures in (_, _, (_, _, s.noted, refl, refl, s.doze), s.steps)
