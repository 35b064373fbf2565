use Rattle.tests.proofs.Empty.{awake_bus}
use Rattle.tests.proofs.boards.driven.Goals as goal

pub driven_as-requires-clause-awake : goal.driven_as-requires-clause-awake
driven_as-requires-clause-awake g c κs within = awake_bus _ c.in-Ok-parts_of.ensures.awake
