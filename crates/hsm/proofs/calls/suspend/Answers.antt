use Rattle.std.proofs.Common.{refl}
use Rattle.hsm.specs.{declared.{view.{Stage.TheVariants.{Running, Suspended}, Action.{TheVariants.{Suspended as DidSuspend}}}}}
use Rattle.hsm.{proofs.{Stand.stands_after, Alone.{keeps, shows_turned}, Stages.runs_settled}, specs.States.suspended}
use Rattle.hsm.proofs.calls.suspend.Goals as goal

pub returns-clause-stands : goal.returns-clause-stands
returns-clause-stands c = stands_after c.args.by Running Suspended (DidSuspend c.suspend.result) c.args.seat.me.0 c.suspend.new.seat.me.0 c.suspend.ensures.told c.requires.acts

pub returns-clause-others : goal.returns-clause-others
returns-clause-others c = keeps c.args.table.now.table.shared.key.harts c.args.by Running Suspended (DidSuspend c.suspend.result) c.args.seat.me.0 c.suspend.new.seat.me.0 c.suspend.ensures.told c.requires.acts

pub returns-clause-alone : goal.returns-clause-alone
returns-clause-alone c = λ states shown. (tt, shows_turned c.args.table.now.table.shared.key.harts c.args.by Running Suspended (DidSuspend c.suspend.result) c.args.seat.me.0 c.suspend.new.seat.me.0 c.suspend.ensures.told c.requires.acts suspended runs_settled refl (λ a o. refl) (λ k a o. refl) (λ k a o. refl) states shown)
