use Rattle.std.proofs.Common.{subst}
use Rattle.theorem.{specs.{Told.IsAt, declared.power.Power.Power}, proofs.Steps.{as_step, not_open}}
use Rattle.theorem.proofs.stories.called.Goals as goal

pub returns-in-Off : goal.returns-in-Off
returns-in-Off g c = λ w at.
    let P : Power → Type 0 = λ p. IsAt c.args.shape.now w p in
    let off = subst P c.in-Off.is at in
    (w, not_open c.args.shape.now w c.args.call.now c.requires off.on, off)

pub returns-in-On : goal.returns-in-On
returns-in-On g c = λ w at.
    let P : Power → Type 0 = λ p. IsAt c.args.shape.now w p in
    let on = subst P c.in-On.is at in
    let did = c.answered-seen.ensures w on in
    (did.0, as_step c.args.shape.now w did.0 c.args.call.now c.answered-seen.result c.requires on.on did.1, did.2)
