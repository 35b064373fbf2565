use Rattle.board_space.proofs.carrying.carry_hart.Goals as goal

pub returns-in-Some-clause-same : goal.returns-in-Some-clause-same
returns-in-Some-clause-same c = λ x is. c.requires.right c.args.number c.in-Some.known x c.in-Some.ensures is
