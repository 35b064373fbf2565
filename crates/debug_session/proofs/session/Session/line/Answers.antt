use Rattle.std.proofs.Common.{refl}
use Rattle.debug_session.proofs.session.Session.line.Goals as goal

pub returns-clause-rest : goal.returns-clause-rest
returns-clause-rest g c = ((refl, refl), refl)

pub returns-clause-at : goal.returns-clause-at
returns-clause-at g c = c.line.ensures.at

pub returns-clause-ran : goal.returns-clause-ran
returns-clause-ran g c = c.line.ensures.ran

pub returns-clause-begins : goal.returns-clause-begins
returns-clause-begins g c = c.line.ensures.begins

pub line-requires-clause-at : goal.line-requires-clause-at
line-requires-clause-at g c κs within = c.requires.at

pub line-requires-clause-range : goal.line-requires-clause-range
line-requires-clause-range g c κs within = c.requires.range
