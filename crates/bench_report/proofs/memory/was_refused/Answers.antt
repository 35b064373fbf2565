use Rattle.std.proofs.Common.{refl}
use Rattle.bench_report.proofs.memory.was_refused.Goals as goal

pub returns-in-Ok : goal.returns-in-Ok
returns-in-Ok c = rw c.in-Ok.is c.lacked_memory.ensures

pub returns-in-Err : goal.returns-in-Err
returns-in-Err c = rw c.in-Err.is refl
