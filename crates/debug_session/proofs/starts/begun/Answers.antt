use Rattle.std.proofs.{Common.{◌∙◌}, lemmas.Result.IfOk-from_err}
use Rattle.debug_session.proofs.starts.begun.Goals as goal

pub returns-in-Ok-clause-at : goal.returns-in-Ok-clause-at
returns-in-Ok-clause-at g c = c.in-Ok.ensures.at

pub returns-in-Ok-clause-noted : goal.returns-in-Ok-clause-noted
returns-in-Ok-clause-noted g c = c.in-Ok.ensures.noted

pub returns-in-Ok-clause-begins : goal.returns-in-Ok-clause-begins
returns-in-Ok-clause-begins g c = c.in-Ok.ensures.begins ∙ c.in_ok-timeline.ensures.begins

pub returns-in-Err-clause-at : goal.returns-in-Err-clause-at
returns-in-Err-clause-at g c = tt

pub returns-in-Err-clause-noted : goal.returns-in-Err-clause-noted
returns-in-Err-clause-noted g c = tt

pub returns-in-Err-clause-begins : goal.returns-in-Err-clause-begins
returns-in-Err-clause-begins g c = tt

pub run_all-requires-clause-ranges : goal.run_all-requires-clause-ranges
run_all-requires-clause-ranges g c κs within = c.requires.ranges

pub run_all-requires-clause-at : goal.run_all-requires-clause-at
run_all-requires-clause-at g c κs within = c.in_ok-timeline.ensures.at

pub run_all-requires-clause-none : goal.run_all-requires-clause-none
run_all-requires-clause-none g c κs within = c.in_ok-timeline.ensures.history

pub returns-in_err-timeline-clause-at : goal.returns-in_err-timeline-clause-at
returns-in_err-timeline-clause-at g c = IfOk-from_err c.from_residual.result _ c.from_residual.ensures.0

pub returns-in_err-timeline-clause-noted : goal.returns-in_err-timeline-clause-noted
returns-in_err-timeline-clause-noted g c = IfOk-from_err c.from_residual.result _ c.from_residual.ensures.0

pub returns-in_err-timeline-clause-begins : goal.returns-in_err-timeline-clause-begins
returns-in_err-timeline-clause-begins g c = IfOk-from_err c.from_residual.result _ c.from_residual.ensures.0
