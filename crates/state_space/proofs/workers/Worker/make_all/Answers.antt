use Rattle.state_space.proofs.workers.Worker.make_all.Goals as goal

pub make-requires-clause-known : goal.make-requires-clause-known
make-requires-clause-known g c κs within = c.requires.known
