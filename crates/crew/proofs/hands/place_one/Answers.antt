use Rattle.std.proofs.Common.{◌+◌, Some}
use Rattle.crew.{specs.Handed.MayBeMade, proofs.Placing.set_each}
use Rattle.crew.proofs.hands.place_one.Goals as goal

pub returns-clause-slots : goal.returns-clause-slots
returns-clause-slots g c =
    set_each (λ i slot. MayBeMade (g.T.Task.is_row c.args.task.now) (c.args.first + i) slot) c.args.slots.now c.args.made.0 (Some c.args.made.1) c.requires.made.0 c.requires.made.1 c.requires.slots
