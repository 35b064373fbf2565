use Rattle.hsm.specs.Views.{listed}
use Rattle.machine.proofs.holds.end_quiet.Goals as goal

pub returns-in-Over-Asleep-clause-alone : goal.returns-in-Over-Asleep-clause-alone
returns-in-Over-Asleep-clause-alone c = λ x are. let a = c.unquiet-harts.ensures.alone (listed x.states) are.0.1 in ((are.0.0, a.1), are.1)

pub unquiet-harts-requires-clause-seat : goal.unquiet-harts-requires-clause-seat
unquiet-harts-requires-clause-seat c = c.requires.seats.0
