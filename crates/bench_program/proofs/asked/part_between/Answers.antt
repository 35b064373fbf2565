use Rattle.bench_program.proofs.Parted.{part_new}
use Rattle.bench_program.proofs.asked.part_between.Goals as goal

pub returns-in-Some-Some : goal.returns-in-Some-Some
returns-in-Some-Some c = rw (c.in-Some-Some.is-0, c.in-Some-Some.is-1) (part_new c.new.result c.in-Some-Some.number c.in-Some-Some.of c.new.ensures)
