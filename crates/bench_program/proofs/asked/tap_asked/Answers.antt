use Rattle.bench_program.proofs.asked.tap_asked.Goals as goal

pub returns : goal.returns
returns c = record { given = c.get_flag.ensures.value; left = c.get_flag.ensures.other; none = c.get_flag.ensures.none }
