use Rattle.std.proofs.Common.{append_assoc}
use Rattle.bench_program.proofs.digests.schedules_text.Goals as goal

pub returns : goal.returns
returns c = simp append_assoc c.format.ensures.ok
