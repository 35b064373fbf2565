use Rattle.std.proofs.Common.{refl}
use Rattle.hsm.{specs.declared.view.{Stage.TheVariants.{Running, Suspended}, Action.TheVariants.Woke}, proofs.Stand.stands_after}
use Rattle.hsm.{specs.States.started, proofs.{Alone.{keeps, shows_turned}, Stages.suspends_settled}}
use Rattle.hsm.proofs.calls.wake.Goals as goal

pub returns-clause-stands : goal.returns-clause-stands
returns-clause-stands c = stands_after c.args.by Suspended Running (Woke c.wake.result) c.args.seat.me.0 c.wake.new.seat.me.0 c.wake.ensures.told c.requires.acts

pub returns-clause-others : goal.returns-clause-others
returns-clause-others c = keeps c.args.table.now.table.shared.key.harts c.args.by Suspended Running (Woke c.wake.result) c.args.seat.me.0 c.wake.new.seat.me.0 c.wake.ensures.told c.requires.acts

pub returns-clause-alone : goal.returns-clause-alone
returns-clause-alone c = λ states shown. (tt, shows_turned c.args.table.now.table.shared.key.harts c.args.by Suspended Running (Woke c.wake.result) c.args.seat.me.0 c.wake.new.seat.me.0 c.wake.ensures.told c.requires.acts started suspends_settled refl (λ a o. refl) (λ k a o. refl) (λ k a o. refl) states shown)
