use Rattle.hsm.{specs.declared.view.{Stage.TheVariants.{Running, Quiet}, Action.TheVariants.Unquieted}, proofs.Stand.stands_after}
use Rattle.hsm.proofs.{Alone.keeps, Quieting.unquiet_alone}
use Rattle.hsm.proofs.calls.unquiet.Goals as goal

pub returns-clause-stands : goal.returns-clause-stands
returns-clause-stands c = stands_after c.args.by Quiet Running (Unquieted c.unquiet.result) c.args.seat.me.0 c.unquiet.new.seat.me.0 c.unquiet.ensures.told c.requires.acts

pub returns-clause-others : goal.returns-clause-others
returns-clause-others c = keeps c.args.table.now.table.shared.key.harts c.args.by Quiet Running (Unquieted c.unquiet.result) c.args.seat.me.0 c.unquiet.new.seat.me.0 c.unquiet.ensures.told c.requires.acts

pub returns-clause-alone : goal.returns-clause-alone
returns-clause-alone c = λ states shown. (tt, unquiet_alone c.args.table.now.table.shared.key.harts c.args.by c.unquiet.result c.args.seat.me.0 c.unquiet.new.seat.me.0 c.unquiet.ensures.told c.requires.acts states shown)
