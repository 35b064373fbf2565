use Rattle.std.proofs.Common.{Ok, Err, refl, subst}
use Rattle.board_model.specs.Shapes.{Size}
use Rattle.susp.{specs.Checks.IsChecked, proofs.Slept.{others_still, others_then, denied_steps, denied_alone, fallen_steps, fallen_alone}}
use Rattle.susp.proofs.sleeps.suspend.Goals as goal

pub returns-in-Err-clause-seat : goal.returns-in-Err-clause-seat
returns-in-Err-clause-seat g c = c.requires.seat

pub returns-in-Err-clause-stands : goal.returns-in-Err-clause-stands
returns-in-Err-clause-stands g c = c.requires.acts

pub returns-in-Err-clause-others : goal.returns-in-Err-clause-others
returns-in-Err-clause-others g c = others_still c.args.by _

pub returns-in-Err-clause-sleeps : goal.returns-in-Err-clause-sleeps
returns-in-Err-clause-sleeps g c = record { asked = Err c.in-Err.error; checked = subst (λ (z : Size). IsChecked z c.args.asked.kind c.args.asked.address (Err c.in-Err.error)) c.shape.ensures c.in-Err.ensures; slept = (refl, refl, refl, refl) }

pub returns-in-Err-clause-alone : goal.returns-in-Err-clause-alone
returns-in-Err-clause-alone g c = λ states shows. (record { asked = Err c.in-Err.error; checked = subst (λ (z : Size). IsChecked z c.args.asked.kind c.args.asked.address (Err c.in-Err.error)) c.shape.ensures c.in-Err.ensures; slept = (refl, refl, refl) }, shows)

pub quiet-seat-requires-clause-seat : goal.quiet-seat-requires-clause-seat
quiet-seat-requires-clause-seat g c = c.requires.seat

pub quiet-seat-requires-clause-by : goal.quiet-seat-requires-clause-by
quiet-seat-requires-clause-by g c = c.requires.by

pub returns-then-not-quiet-clause-seat : goal.returns-then-not-quiet-clause-seat
returns-then-not-quiet-clause-seat g c = c.quiet-seat.ensures.seat

pub returns-then-not-quiet-clause-others : goal.returns-then-not-quiet-clause-others
returns-then-not-quiet-clause-others g c = c.quiet-seat.ensures.others

pub returns-then-not-quiet-clause-sleeps : goal.returns-then-not-quiet-clause-sleeps
returns-then-not-quiet-clause-sleeps g c =
    denied_steps _ c.args.by c.args.asked.kind c.args.asked.address c.args.asked.opaque c.args.bus.now c.args.store.now c.in-Ok.checked.0 c.in-Ok.checked.1 (subst (λ (z : Size). IsChecked z c.args.asked.kind c.args.asked.address (Ok c.in-Ok.checked)) c.shape.ensures c.in-Ok.ensures)
    c.quiet-seat.result.1 _ _ c.if-not-quiet.true c.quiet-seat.ensures.steps

pub returns-then-not-quiet-clause-alone : goal.returns-then-not-quiet-clause-alone
returns-then-not-quiet-clause-alone g c =
    denied_alone _ c.args.by c.args.asked.kind c.args.asked.address c.args.asked.opaque c.args.bus.now c.args.store.now c.in-Ok.checked.0 c.in-Ok.checked.1 (subst (λ (z : Size). IsChecked z c.args.asked.kind c.args.asked.address (Ok c.in-Ok.checked)) c.shape.ensures c.in-Ok.ensures)
    c.quiet-seat.result.1 _ _ c.if-not-quiet.true c.quiet-seat.ensures.alone

pub returns-clause-seat : goal.returns-clause-seat
returns-clause-seat g c = c.fall_asleep.ensures.seat

pub returns-clause-stands : goal.returns-clause-stands
returns-clause-stands g c = c.fall_asleep.ensures.stands

pub returns-clause-others : goal.returns-clause-others
returns-clause-others g c = others_then c.args.by _ _ _ c.quiet-seat.ensures.others c.fall_asleep.ensures.others

pub returns-clause-sleeps : goal.returns-clause-sleeps
returns-clause-sleeps g c =
    fallen_steps _ c.args.by c.args.asked.kind c.args.asked.address c.args.asked.opaque c.args.bus.now c.args.store.now c.in-Ok.checked.0 c.in-Ok.checked.1 (subst (λ (z : Size). IsChecked z c.args.asked.kind c.args.asked.address (Ok c.in-Ok.checked)) c.shape.ensures c.in-Ok.ensures)
    c.quiet-seat.result.1 _ _ _ _ _ _ c.if-not-quiet.false c.quiet-seat.ensures.steps c.fall_asleep.ensures.falls

pub returns-clause-alone : goal.returns-clause-alone
returns-clause-alone g c =
    fallen_alone _ c.args.by c.args.asked.kind c.args.asked.address c.args.asked.opaque c.args.bus.now c.args.store.now c.in-Ok.checked.0 c.in-Ok.checked.1 (subst (λ (z : Size). IsChecked z c.args.asked.kind c.args.asked.address (Ok c.in-Ok.checked)) c.shape.ensures c.in-Ok.ensures)
    c.quiet-seat.result.1 _ _ _ _ _ _ c.if-not-quiet.false c.quiet-seat.ensures.alone c.fall_asleep.ensures.alone
