use Rattle.state_space.proofs.workers.Worker.expanded.Goals as goal

pub made_of-requires-clause-known : goal.made_of-requires-clause-known
made_of-requires-clause-known g c κs within = c.requires.known c.args.number c.requires.within
