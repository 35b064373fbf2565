use Rattle.std.proofs.{Common.refl, lemmas.Result.IfOk-from_err}
use Rattle.debug_session.proofs.session.Session.step_back.Goals as goal

pub returns-in_err-found-clause-rest : goal.returns-in_err-found-clause-rest
returns-in_err-found-clause-rest g c = ((refl, refl), refl)

pub returns-in_err-found-clause-begins : goal.returns-in_err-found-clause-begins
returns-in_err-found-clause-begins g c = c.step_back.ensures.begins

pub returns-clause-rest : goal.returns-clause-rest
returns-clause-rest g c = ((refl, refl), refl)

pub returns-clause-begins : goal.returns-clause-begins
returns-clause-begins g c = c.step_back.ensures.begins

pub step_back-requires-clause-at : goal.step_back-requires-clause-at
step_back-requires-clause-at g c κs within = c.requires.at

pub returns-clause-at : goal.returns-clause-at
returns-clause-at g c = c.in_ok-found.ensures.at

pub returns-clause-there : goal.returns-clause-there
returns-clause-there g c = c.requires.hart

pub returns-in_err-found-clause-at : goal.returns-in_err-found-clause-at
returns-in_err-found-clause-at g c = IfOk-from_err c.from_residual.result _ c.from_residual.ensures.0

pub returns-in_err-found-clause-back : goal.returns-in_err-found-clause-back
returns-in_err-found-clause-back g c = IfOk-from_err c.from_residual.result _ c.from_residual.ensures.0

pub returns-in_err-found-clause-there : goal.returns-in_err-found-clause-there
returns-in_err-found-clause-there g c = IfOk-from_err c.from_residual.result _ c.from_residual.ensures.0
