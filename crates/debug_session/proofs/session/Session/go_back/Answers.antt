use Rattle.std.proofs.{Common.{inl, refl, inr}, lemmas.Result.IfOk-from_err}
use Rattle.debug_session.proofs.{Histories.place_hart, Backs.went_back}
use Rattle.debug_session.proofs.session.Session.go_back.Goals as goal

pub returns-in_ok-go_back-in-Some-clause-there : goal.returns-in_ok-go_back-in-Some-clause-there
returns-in_ok-go_back-in-Some-clause-there g c =
    let place = c.in-Some.place in
    place_hart c.args.self.now.setting.shape.now place.stop.hart place.line place.turns c.args.self.now.timeline.history (rw c.in-Some.is at (rw c.in-Ended.is at c.in_ok-found.ensures.place)) c.requires.at.ranges

pub returns-in_ok-go_back-in-Some-clause-back : goal.returns-in_ok-go_back-in-Some-clause-back
returns-in_ok-go_back-in-Some-clause-back g c =
    let place = c.in-Some.place in
    inl (went_back c.args.self.now.setting.shape.now c.args.self.now.stops place c.args.self.now.timeline c.go_back.new.self c.in_ok-go_back-in-Some.ensures.history (rw c.in-Some.is at (rw c.in-Ended.is at c.in_ok-found.ensures.end)))

pub place_back-requires-clause-ranges : goal.place_back-requires-clause-ranges
place_back-requires-clause-ranges g c κs within = c.requires.at.ranges

pub go_back-requires-clause-at : goal.go_back-requires-clause-at
go_back-requires-clause-at g c κs within = c.requires.at

pub go_back-requires-clause-row : goal.go_back-requires-clause-row
go_back-requires-clause-row g c κs within = rw c.in-Some.is at (rw c.in-Ended.is at c.in_ok-found.ensures.place)

pub returns-in_err-found-clause-begins : goal.returns-in_err-found-clause-begins
returns-in_err-found-clause-begins g c = IfOk-from_err c.from_residual.result _ c.from_residual.ensures.0

pub returns-in_default-clause-at : goal.returns-in_default-clause-at
returns-in_default-clause-at g c = c.requires.at

pub returns-in_default-clause-there : goal.returns-in_default-clause-there
returns-in_default-clause-there g c = c.requires.hart

pub returns-in_default-clause-begins : goal.returns-in_default-clause-begins
returns-in_default-clause-begins g c = refl

pub returns-in-None-clause-at : goal.returns-in-None-clause-at
returns-in-None-clause-at g c = c.requires.at

pub returns-in-None-clause-there : goal.returns-in-None-clause-there
returns-in-None-clause-there g c = c.requires.hart

pub returns-in-None-clause-begins : goal.returns-in-None-clause-begins
returns-in-None-clause-begins g c = refl

pub returns-in_default-clause-back : goal.returns-in_default-clause-back
returns-in_default-clause-back g c = inr (refl, refl, inr refl)

pub returns-in-None-clause-back : goal.returns-in-None-clause-back
returns-in-None-clause-back g c = inr (refl, refl, inl (refl, rw c.in-None.is at (rw c.in-Ended.is at c.in_ok-found.ensures.none)))

pub returns-in_err-go_back-in-Some-clause-begins : goal.returns-in_err-go_back-in-Some-clause-begins
returns-in_err-go_back-in-Some-clause-begins g c = IfOk-from_err c.from_residual-in_err-go_back-in-Some.result _ c.from_residual-in_err-go_back-in-Some.ensures.0

pub returns-in_ok-go_back-in-Some-clause-begins : goal.returns-in_ok-go_back-in-Some-clause-begins
returns-in_ok-go_back-in-Some-clause-begins g c = c.go_back.ensures.begins

pub returns-in_ok-go_back-in-Some-clause-at : goal.returns-in_ok-go_back-in-Some-clause-at
returns-in_ok-go_back-in-Some-clause-at g c = c.in_ok-go_back-in-Some.ensures.at

pub returns-in_err-found-clause-at : goal.returns-in_err-found-clause-at
returns-in_err-found-clause-at g c = IfOk-from_err c.from_residual.result _ c.from_residual.ensures.0

pub returns-in_err-found-clause-back : goal.returns-in_err-found-clause-back
returns-in_err-found-clause-back g c = IfOk-from_err c.from_residual.result _ c.from_residual.ensures.0

pub returns-in_err-found-clause-there : goal.returns-in_err-found-clause-there
returns-in_err-found-clause-there g c = IfOk-from_err c.from_residual.result _ c.from_residual.ensures.0

pub returns-in_err-go_back-in-Some-clause-at : goal.returns-in_err-go_back-in-Some-clause-at
returns-in_err-go_back-in-Some-clause-at g c = IfOk-from_err c.from_residual-in_err-go_back-in-Some.result _ c.from_residual-in_err-go_back-in-Some.ensures.0

pub returns-in_err-go_back-in-Some-clause-back : goal.returns-in_err-go_back-in-Some-clause-back
returns-in_err-go_back-in-Some-clause-back g c = IfOk-from_err c.from_residual-in_err-go_back-in-Some.result _ c.from_residual-in_err-go_back-in-Some.ensures.0

pub returns-in_err-go_back-in-Some-clause-there : goal.returns-in_err-go_back-in-Some-clause-there
returns-in_err-go_back-in-Some-clause-there g c = IfOk-from_err c.from_residual-in_err-go_back-in-Some.result _ c.from_residual-in_err-go_back-in-Some.ensures.0

pub returns-in_err-found-clause-rest : goal.returns-in_err-found-clause-rest
returns-in_err-found-clause-rest g c = ((refl, refl), refl)

pub returns-in_default-clause-rest : goal.returns-in_default-clause-rest
returns-in_default-clause-rest g c = ((refl, refl), refl)

pub returns-in-None-clause-rest : goal.returns-in-None-clause-rest
returns-in-None-clause-rest g c = ((refl, refl), refl)

pub returns-in_err-go_back-in-Some-clause-rest : goal.returns-in_err-go_back-in-Some-clause-rest
returns-in_err-go_back-in-Some-clause-rest g c = ((refl, refl), refl)

pub returns-in_ok-go_back-in-Some-clause-rest : goal.returns-in_ok-go_back-in-Some-clause-rest
returns-in_ok-go_back-in-Some-clause-rest g c = ((refl, refl), refl)
