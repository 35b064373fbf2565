use Rattle.bench_program.proofs.Bounded.{read_says}
use Rattle.bench_program.proofs.read_script.Goals as goal

pub returns-in-Ok-clause-said : goal.returns-in-Ok-clause-said
returns-in-Ok-clause-said g c = read_says _ _ c.in-Ok.ensures
