use Rattle.std.proofs.Common.{refl}
use Rattle.hsm.{specs.declared.view.{Stage.TheVariants.{Running, Out}, Action.TheVariants.Stopped}, proofs.Stand.stands_after}
use Rattle.hsm.{specs.States.stopped, proofs.{Alone.{keeps, shows_turned}, Stages.runs_settled}}
use Rattle.hsm.proofs.calls.stop.Goals as goal

pub returns-clause-stands : goal.returns-clause-stands
returns-clause-stands c = stands_after c.args.by Running Out (Stopped c.stop.result) c.args.seat.me.0 c.stop.new.seat.me.0 c.stop.ensures.told c.requires.acts

pub returns-clause-others : goal.returns-clause-others
returns-clause-others c = keeps c.args.table.now.table.shared.key.harts c.args.by Running Out (Stopped c.stop.result) c.args.seat.me.0 c.stop.new.seat.me.0 c.stop.ensures.told c.requires.acts

pub returns-clause-alone : goal.returns-clause-alone
returns-clause-alone c = λ states shown. (tt, shows_turned c.args.table.now.table.shared.key.harts c.args.by Running Out (Stopped c.stop.result) c.args.seat.me.0 c.stop.new.seat.me.0 c.stop.ensures.told c.requires.acts stopped runs_settled refl (λ a o. refl) (λ k a o. refl) (λ k a o. refl) states shown)
