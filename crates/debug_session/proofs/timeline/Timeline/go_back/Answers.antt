use Rattle.std.proofs.{Common.{◌∙◌, refl}, lemmas.Result.IfOk-from_err}
use Rattle.debug_session.proofs.{Histories.{cut_ranges, place_before}, Timelines.always_ok}
use Rattle.debug_session.proofs.timeline.Timeline.go_back.Goals as goal

pub again-requires-clause-ranges : goal.again-requires-clause-ranges
again-requires-clause-ranges g c = λ ks lives. cut_ranges c.args.setting.now.shape.now c.args.hart c.args.place c.args.turns c.args.self.now.history c.cut_to.new.self c.requires.row c.in_ok-cut_to.ensures c.requires.at.ranges

pub returns-clause-back : goal.returns-clause-back
returns-clause-back g c = always_ok c.again.result _ (place_before c.args.hart c.args.place c.args.turns c.args.self.now.history c.again.new.self.history c.requires.row (c.again.ensures.history ∙ c.in_ok-cut_to.ensures))

pub returns-clause-at : goal.returns-clause-at
returns-clause-at g c = c.again.ensures.at

pub returns-clause-begins : goal.returns-clause-begins
returns-clause-begins g c = c.again.ensures.begins

pub returns-in_err-cut_to-clause-begins : goal.returns-in_err-cut_to-clause-begins
returns-in_err-cut_to-clause-begins g c = refl

pub returns-in_err-cut_to-clause-at : goal.returns-in_err-cut_to-clause-at
returns-in_err-cut_to-clause-at g c = IfOk-from_err c.from_residual.result _ c.from_residual.ensures.0

pub returns-in_err-cut_to-clause-history : goal.returns-in_err-cut_to-clause-history
returns-in_err-cut_to-clause-history g c = IfOk-from_err c.from_residual.result _ c.from_residual.ensures.0

pub returns-in_err-cut_to-clause-back : goal.returns-in_err-cut_to-clause-back
returns-in_err-cut_to-clause-back g c = IfOk-from_err c.from_residual.result _ c.from_residual.ensures.0
