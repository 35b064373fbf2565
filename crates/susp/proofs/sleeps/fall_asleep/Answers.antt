use Rattle.susp.proofs.Slept.{others_still, dozes, dozes_by, sleeps_on, sleeps_on_by, stays_awake, stays_awake_by}
use Rattle.susp.proofs.sleeps.fall_asleep.Goals as goal

pub unquiet-requires-clause-seat : goal.unquiet-requires-clause-seat
unquiet-requires-clause-seat g c = c.requires.seat

pub unquiet-requires-clause-acts : goal.unquiet-requires-clause-acts
unquiet-requires-clause-acts g c = c.requires.quiet

pub returns-in-ToRam-clause-seat : goal.returns-in-ToRam-clause-seat
returns-in-ToRam-clause-seat g c = c.requires.seat

pub returns-in-ToRam-clause-stands : goal.returns-in-ToRam-clause-stands
returns-in-ToRam-clause-stands g c = c.requires.quiet

pub returns-in-ToRam-clause-others : goal.returns-in-ToRam-clause-others
returns-in-ToRam-clause-others g c = others_still c.args.at.hart _

pub returns-in-ToRam-clause-falls : goal.returns-in-ToRam-clause-falls
returns-in-ToRam-clause-falls g c = dozes c.args.sleep c.args.at.hart c.args.at.address c.args.at.opaque c.args.bus.now c.args.store.now c.args.store.now c.in-ToRam.is _

pub returns-in-ToRam-clause-alone : goal.returns-in-ToRam-clause-alone
returns-in-ToRam-clause-alone g c = λ states shows. (dozes_by c.args.sleep c.args.at.hart c.args.at.address c.args.at.opaque c.args.bus.now c.args.store.now c.args.store.now c.in-ToRam.is, shows)

pub returns-in-Ok-clause-seat : goal.returns-in-Ok-clause-seat
returns-in-Ok-clause-seat g c = c.requires.seat

pub returns-in-Ok-clause-stands : goal.returns-in-Ok-clause-stands
returns-in-Ok-clause-stands g c = c.requires.quiet

pub returns-in-Ok-clause-others : goal.returns-in-Ok-clause-others
returns-in-Ok-clause-others g c = others_still c.args.at.hart _

pub returns-in-Ok-clause-falls : goal.returns-in-Ok-clause-falls
returns-in-Ok-clause-falls g c = sleeps_on c.args.sleep c.args.at.hart c.args.at.address c.args.at.opaque c.args.bus.now c.args.store.now c.suspend.new.self c.in-ToDisk.is c.in-Ok.field-0 c.in-Ok.ensures.asked _

pub returns-in-Ok-clause-alone : goal.returns-in-Ok-clause-alone
returns-in-Ok-clause-alone g c = λ states shows. (sleeps_on_by c.args.sleep c.args.at.hart c.args.at.address c.args.at.opaque c.args.bus.now c.args.store.now c.suspend.new.self c.in-ToDisk.is c.in-Ok.field-0 c.in-Ok.ensures.asked, shows)

pub returns-in-Err-clause-seat : goal.returns-in-Err-clause-seat
returns-in-Err-clause-seat g c = c.unquiet.ensures.seat

pub returns-in-Err-clause-stands : goal.returns-in-Err-clause-stands
returns-in-Err-clause-stands g c = c.unquiet.ensures.stands

pub returns-in-Err-clause-others : goal.returns-in-Err-clause-others
returns-in-Err-clause-others g c = c.unquiet.ensures.others

pub returns-in-Err-clause-falls : goal.returns-in-Err-clause-falls
returns-in-Err-clause-falls g c = stays_awake c.args.sleep c.args.at.hart c.args.at.address c.args.at.opaque c.args.bus.now c.args.store.now c.suspend.new.self c.in-ToDisk.is c.in-Err.field-0 c.in-Err.ensures.asked _ _ c.unquiet.ensures.steps

pub returns-in-Err-clause-alone : goal.returns-in-Err-clause-alone
returns-in-Err-clause-alone g c = λ states shows. (stays_awake_by c.args.sleep c.args.at.hart c.args.at.address c.args.at.opaque c.args.bus.now c.args.store.now c.suspend.new.self c.in-ToDisk.is c.in-Err.field-0 c.in-Err.ensures.asked, (c.unquiet.ensures.alone states shows).1)
