use Rattle.std.proofs.{Common.{Some, sym, subst, refl}, lemmas.Result.IfOk-from_err}
use Rattle.debug_session.specs.{declared.halts.HaltReason.HaltReason, Firsts.{TellsTouched, ToHalt, seen_in}, Lives.machine_of}
use Rattle.debug_session.{specs.Steps.IsStep, proofs.{Firsts.{step_halts, tells_seen}, Wents.step_of}}
use Rattle.bench_report.specs.declared.live.LiveBench.{LiveBench}
use Rattle.debug_session.proofs.session.Session.step.Goals as goal

pub returns-clause-step : goal.returns-clause-step
returns-clause-step g c =
    let part = c.in_ok-part.part in
    let P : HaltReason → Type 0 = λ halt. IsStep c.args.self.now.setting.shape.now c.args.hart halt c.args.self.now.timeline c.watched_turn.new.timeline in
    subst P (sym c.halt_step-halt.ensures) (step_of c.args.self.now.setting.shape.now c.args.hart c.args.self.now.stops.points.items part c.args.self.now.timeline c.watched_turn.new.timeline c.in_ok-part.ensures.made)

pub returns-clause-first : goal.returns-clause-first
returns-clause-first g c =
    let part = c.in_ok-part.part in
    let P : HaltReason → Type 0 = λ halt. ToHalt c.args.self.now.setting.shape.now c.args.self.now.stops c.args.hart (Some halt) c.args.self.now.timeline c.watched_turn.new.timeline in
    subst P (sym c.halt_step-halt.ensures) (step_halts c.args.self.now.setting.shape.now c.args.self.now.stops c.args.hart part.made part.halt c.args.self.now.timeline c.watched_turn.new.timeline c.in_ok-part.ensures.first)

pub watched_turn-requires-clause-tells : goal.watched_turn-requires-clause-tells
watched_turn-requires-clause-tells g c κs within =
    let watches = c.args.self.now.stops.watches.items in
    let before = seen_in c.in_ok-before.before.items in
    let P : LiveBench → Type 0 = λ b. TellsTouched (machine_of b) watches before in
    subst P c.bench.ensures (tells_seen (machine_of c.bench.result.now) watches before c.in_ok-before.ensures.seen)

pub watched_turn-requires-clause-at : goal.watched_turn-requires-clause-at
watched_turn-requires-clause-at g c κs within = c.requires.at

pub watched_turn-requires-clause-hart : goal.watched_turn-requires-clause-hart
watched_turn-requires-clause-hart g c κs within = c.requires.hart

pub returns-clause-at : goal.returns-clause-at
returns-clause-at g c = c.in_ok-part.ensures.at

pub returns-clause-there : goal.returns-clause-there
returns-clause-there g c = refl

pub returns-clause-begins : goal.returns-clause-begins
returns-clause-begins g c = c.watched_turn.ensures.begins

pub returns-in_err-part-clause-begins : goal.returns-in_err-part-clause-begins
returns-in_err-part-clause-begins g c = IfOk-from_err c.from_residual-in_err-part.result _ c.from_residual-in_err-part.ensures.0

pub returns-in_err-before-clause-begins : goal.returns-in_err-before-clause-begins
returns-in_err-before-clause-begins g c = IfOk-from_err c.from_residual.result _ c.from_residual.ensures.0

pub returns-in_err-before-clause-at : goal.returns-in_err-before-clause-at
returns-in_err-before-clause-at g c = IfOk-from_err c.from_residual.result _ c.from_residual.ensures.0

pub returns-in_err-before-clause-step : goal.returns-in_err-before-clause-step
returns-in_err-before-clause-step g c = IfOk-from_err c.from_residual.result _ c.from_residual.ensures.0

pub returns-in_err-before-clause-first : goal.returns-in_err-before-clause-first
returns-in_err-before-clause-first g c = IfOk-from_err c.from_residual.result _ c.from_residual.ensures.0

pub returns-in_err-before-clause-there : goal.returns-in_err-before-clause-there
returns-in_err-before-clause-there g c = IfOk-from_err c.from_residual.result _ c.from_residual.ensures.0

pub returns-in_err-part-clause-at : goal.returns-in_err-part-clause-at
returns-in_err-part-clause-at g c = IfOk-from_err c.from_residual-in_err-part.result _ c.from_residual-in_err-part.ensures.0

pub returns-in_err-part-clause-step : goal.returns-in_err-part-clause-step
returns-in_err-part-clause-step g c = IfOk-from_err c.from_residual-in_err-part.result _ c.from_residual-in_err-part.ensures.0

pub returns-in_err-part-clause-first : goal.returns-in_err-part-clause-first
returns-in_err-part-clause-first g c = IfOk-from_err c.from_residual-in_err-part.result _ c.from_residual-in_err-part.ensures.0

pub returns-in_err-part-clause-there : goal.returns-in_err-part-clause-there
returns-in_err-part-clause-there g c = IfOk-from_err c.from_residual-in_err-part.result _ c.from_residual-in_err-part.ensures.0

pub returns-clause-rest : goal.returns-clause-rest
returns-clause-rest g c = ((refl, refl), refl)

pub returns-in_err-part-clause-rest : goal.returns-in_err-part-clause-rest
returns-in_err-part-clause-rest g c = ((refl, refl), refl)

pub returns-in_err-before-clause-rest : goal.returns-in_err-before-clause-rest
returns-in_err-before-clause-rest g c = ((refl, refl), refl)
