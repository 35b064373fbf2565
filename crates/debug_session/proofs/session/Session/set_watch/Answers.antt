use Rattle.std.proofs.Common.{refl}
use Rattle.debug_session.proofs.session.Session.set_watch.Goals as goal

pub returns-clause-timeline : goal.returns-clause-timeline
returns-clause-timeline g c = refl

pub returns-clause-rest : goal.returns-clause-rest
returns-clause-rest g c = (refl, refl)

pub returns-clause-points : goal.returns-clause-points
returns-clause-points g c = c.set_watch.ensures.points

pub returns-clause-unset : goal.returns-clause-unset
returns-clause-unset g c = c.set_watch.ensures.unset

pub returns-clause-watches : goal.returns-clause-watches
returns-clause-watches g c = c.set_watch.ensures.watches
