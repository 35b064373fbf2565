use Rattle.std.proofs.{Common.refl, lemmas.Result.IfOk-from_err}
use Rattle.debug_session.proofs.session.Session.new.Goals as goal

pub begun-requires-clause-ranges : goal.begun-requires-clause-ranges
begun-requires-clause-ranges g c κs within = c.requires.ranges

pub returns-clause-at : goal.returns-clause-at
returns-clause-at g c = c.in_ok-timeline.ensures.at

pub returns-clause-noted : goal.returns-clause-noted
returns-clause-noted g c = c.in_ok-timeline.ensures.noted

pub returns-clause-begins : goal.returns-clause-begins
returns-clause-begins g c = c.in_ok-timeline.ensures.begins

pub returns-clause-size : goal.returns-clause-size
returns-clause-size g c = refl

pub returns-clause-plan : goal.returns-clause-plan
returns-clause-plan g c = refl

pub returns-clause-points : goal.returns-clause-points
returns-clause-points g c = c.new-2.ensures.points

pub returns-clause-watches : goal.returns-clause-watches
returns-clause-watches g c = c.new-2.ensures.watches

pub returns-in_err-timeline-clause-at : goal.returns-in_err-timeline-clause-at
returns-in_err-timeline-clause-at g c = IfOk-from_err c.from_residual.result _ c.from_residual.ensures.0

pub returns-in_err-timeline-clause-size : goal.returns-in_err-timeline-clause-size
returns-in_err-timeline-clause-size g c = IfOk-from_err c.from_residual.result _ c.from_residual.ensures.0

pub returns-in_err-timeline-clause-noted : goal.returns-in_err-timeline-clause-noted
returns-in_err-timeline-clause-noted g c = IfOk-from_err c.from_residual.result _ c.from_residual.ensures.0

pub returns-in_err-timeline-clause-begins : goal.returns-in_err-timeline-clause-begins
returns-in_err-timeline-clause-begins g c = IfOk-from_err c.from_residual.result _ c.from_residual.ensures.0

pub returns-in_err-timeline-clause-plan : goal.returns-in_err-timeline-clause-plan
returns-in_err-timeline-clause-plan g c = IfOk-from_err c.from_residual.result _ c.from_residual.ensures.0

pub returns-in_err-timeline-clause-points : goal.returns-in_err-timeline-clause-points
returns-in_err-timeline-clause-points g c = IfOk-from_err c.from_residual.result _ c.from_residual.ensures.0

pub returns-in_err-timeline-clause-watches : goal.returns-in_err-timeline-clause-watches
returns-in_err-timeline-clause-watches g c = IfOk-from_err c.from_residual.result _ c.from_residual.ensures.0
