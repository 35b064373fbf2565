use Rattle.std.proofs.Common.{refl}
use Rattle.debug_session.proofs.session.Session.step_within.Goals as goal

pub returns-clause-rest : goal.returns-clause-rest
returns-clause-rest g c = ((refl, refl), refl)

pub returns-clause-there : goal.returns-clause-there
returns-clause-there g c = c.step_within.ensures.there

pub returns-clause-went : goal.returns-clause-went
returns-clause-went g c = c.step_within.ensures.went

pub returns-clause-within : goal.returns-clause-within
returns-clause-within g c = c.step_within.ensures.within

pub step_within-requires-clause-at : goal.step_within-requires-clause-at
step_within-requires-clause-at g c κs within = c.requires.at

pub step_within-requires-clause-hart : goal.step_within-requires-clause-hart
step_within-requires-clause-hart g c κs within = c.requires.hart
