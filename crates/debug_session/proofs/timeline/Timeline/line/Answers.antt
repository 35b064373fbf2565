use Rattle.debug_session.proofs.Timelines.{ran_other}
use Rattle.std.proofs.lemmas.Result.{IfOk-from_err}
use Rattle.debug_session.proofs.timeline.Timeline.line.Goals as goal

pub returns-in_default-clause-ran : goal.returns-in_default-clause-ran
returns-in_default-clause-ran g c =
    ran_other c.args.setting.now.shape.now c.args.line c.whole_line.result c.args.self.now c.whole_line.new.self c.in_default.not-Turn c.whole_line.ensures.moves c.whole_line.ensures.grew

pub turns-requires-clause-at : goal.turns-requires-clause-at
turns-requires-clause-at g c κs within = c.requires.at

pub whole_line-requires-clause-at : goal.whole_line-requires-clause-at
whole_line-requires-clause-at g c κs within = c.requires.at

pub whole_line-requires-clause-range : goal.whole_line-requires-clause-range
whole_line-requires-clause-range g c κs within = c.requires.range

pub returns-in_err-row-in-Turn-clause-begins : goal.returns-in_err-row-in-Turn-clause-begins
returns-in_err-row-in-Turn-clause-begins g c = c.turns.ensures.begins

pub returns-in_ok-row-in-Turn-clause-begins : goal.returns-in_ok-row-in-Turn-clause-begins
returns-in_ok-row-in-Turn-clause-begins g c = c.turns.ensures.begins

pub returns-in_ok-row-in-Turn-clause-at : goal.returns-in_ok-row-in-Turn-clause-at
returns-in_ok-row-in-Turn-clause-at g c = c.in_ok-row-in-Turn.ensures.at

pub returns-in_default-clause-at : goal.returns-in_default-clause-at
returns-in_default-clause-at g c = c.whole_line.ensures.at

pub returns-in_default-clause-begins : goal.returns-in_default-clause-begins
returns-in_default-clause-begins g c = c.whole_line.ensures.begins

pub returns-in_err-row-in-Turn-clause-at : goal.returns-in_err-row-in-Turn-clause-at
returns-in_err-row-in-Turn-clause-at g c = IfOk-from_err c.from_residual.result _ c.from_residual.ensures.0

pub returns-in_err-row-in-Turn-clause-ran : goal.returns-in_err-row-in-Turn-clause-ran
returns-in_err-row-in-Turn-clause-ran g c = IfOk-from_err c.from_residual.result _ c.from_residual.ensures.0
