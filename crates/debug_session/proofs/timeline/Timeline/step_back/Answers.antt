use Rattle.std.{proofs.{Common.{◌≡◌, Bool, subst, refl}, lemmas.Result.IfOk-from_err}, specs.Bool.MatchBool}
use Rattle.debug_session.{specs.Pasts.IsRowCut, proofs.Histories.row_cut_ranges}
use Rattle.debug_session.proofs.timeline.Timeline.step_back.Goals as goal

pub again-requires-clause-ranges : goal.again-requires-clause-ranges
again-requires-clause-ranges g c = λ ks lives.
    let old = c.args.self.now.history in
    let new = c.step_back.new.self in
    let P : Bool → Type 0 = λ found. MatchBool found (IsRowCut c.args.hart old new) (new ≡ old) in
    row_cut_ranges c.args.setting.now.shape.now c.args.hart old new (subst P c.if-not-branch.false c.in_ok-step_back.ensures.line) c.requires.at.ranges

pub returns-clause-begins : goal.returns-clause-begins
returns-clause-begins g c = c.again.ensures.begins

pub returns-in_err-again-clause-begins : goal.returns-in_err-again-clause-begins
returns-in_err-again-clause-begins g c = c.again.ensures.begins

pub returns-in_err-step_back-clause-begins : goal.returns-in_err-step_back-clause-begins
returns-in_err-step_back-clause-begins g c = refl

pub returns-clause-at : goal.returns-clause-at
returns-clause-at g c = c.in_ok-again.ensures.at

pub returns-in_err-step_back-clause-at : goal.returns-in_err-step_back-clause-at
returns-in_err-step_back-clause-at g c = IfOk-from_err c.from_residual.result _ c.from_residual.ensures.0

pub returns-in_err-step_back-clause-back : goal.returns-in_err-step_back-clause-back
returns-in_err-step_back-clause-back g c = IfOk-from_err c.from_residual.result _ c.from_residual.ensures.0

pub returns-in_err-again-clause-at : goal.returns-in_err-again-clause-at
returns-in_err-again-clause-at g c = IfOk-from_err c.from_residual-in_err-again.result _ c.from_residual-in_err-again.ensures.0

pub returns-in_err-again-clause-back : goal.returns-in_err-again-clause-back
returns-in_err-again-clause-back g c = IfOk-from_err c.from_residual-in_err-again.result _ c.from_residual-in_err-again.ensures.0
