use Rattle.board_space.proofs.carrying.carry_words.Goals as goal

pub returns-in-Some-clause-within : goal.returns-in-Some-clause-within
returns-in-Some-clause-within c = (c.requires.right c.args.number c.in-Some.known c.in-Some.ensures c.requires.known).0
