use Rattle.std.proofs.{Common.{◌∙◌, Option, refl, sym, subst}, lemmas.Result.IfOk-from_err}
use Rattle.debug_session.{specs.{Firsts.ToHalt, Withins.WithinTo, declared.halts.HaltReason.HaltReason}, proofs.Firsts.within_halts}
use Rattle.debug_session.proofs.Withins.{steps_on, turned_within}
use Rattle.debug_session.proofs.steps.turn_within.Goals as goal

pub watched_turn-requires-clause-at : goal.watched_turn-requires-clause-at
watched_turn-requires-clause-at g c κs within = c.requires.at

pub watched_turn-requires-clause-hart : goal.watched_turn-requires-clause-hart
watched_turn-requires-clause-hart g c κs within = c.requires.hart

pub watched_turn-requires-clause-tells : goal.watched_turn-requires-clause-tells
watched_turn-requires-clause-tells g c κs within = c.requires.tells

pub returns-clause-went : goal.returns-clause-went
returns-clause-went g c = (c.in_ok-part.part.made, c.in_ok-part.ensures.one, c.in_ok-part.ensures.went)

pub returns-clause-first : goal.returns-clause-first
returns-clause-first g c =
    let part = c.in_ok-part.part in
    let P : Option HaltReason → Type 0 = λ halt. ToHalt c.args.setting.now.shape.now c.args.stops.now c.args.hart halt c.args.timeline.now c.watched_turn.new.timeline in
    subst P (sym c.halt_within.ensures) (within_halts c.args.setting.now.shape.now c.args.stops.now c.args.hart part.made c.stands_within-stands.result part.halt c.args.timeline.now c.watched_turn.new.timeline c.in_ok-part.ensures.first)

pub returns-clause-within : goal.returns-clause-within
returns-clause-within g c = λ first n stayed.
    let part = c.in_ok-part.part in
    let P : Option HaltReason → Type 0 = λ halt. WithinTo c.args.setting.now.shape.now c.args.within c.args.hart n halt first c.watched_turn.new.timeline in
    subst P (sym c.halt_within.ensures) (turned_within c.args.setting.now.shape.now c.args.within c.args.hart n c.args.stops.now.points.items part first c.args.timeline.now c.watched_turn.new.timeline stayed part.halt c.stands_within-stands.result refl c.stands_within-stands.ensures c.in_ok-part.ensures.made c.in_ok-part.ensures.one)

pub returns-clause-tells : goal.returns-clause-tells
returns-clause-tells g c = λ on.
    let part = c.in_ok-part.part in
    let both = steps_on part.halt part.made c.stands_within-stands.result (sym c.halt_within.ensures ∙ on) in
    c.in_ok-part.ensures.tells both.1 both.0

pub returns-in_err-part-clause-went : goal.returns-in_err-part-clause-went
returns-in_err-part-clause-went g c = IfOk-from_err c.from_residual.result _ c.from_residual.ensures.0

pub returns-in_err-part-clause-first : goal.returns-in_err-part-clause-first
returns-in_err-part-clause-first g c = IfOk-from_err c.from_residual.result _ c.from_residual.ensures.0

pub returns-in_err-part-clause-within : goal.returns-in_err-part-clause-within
returns-in_err-part-clause-within g c = IfOk-from_err c.from_residual.result _ c.from_residual.ensures.0

pub returns-in_err-part-clause-tells : goal.returns-in_err-part-clause-tells
returns-in_err-part-clause-tells g c = IfOk-from_err c.from_residual.result _ c.from_residual.ensures.0
