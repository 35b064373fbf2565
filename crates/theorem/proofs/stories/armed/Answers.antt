use Rattle.std.proofs.Common.{subst}
use Rattle.store.specs.Views.{view_of}
use Rattle.theorem.{specs.{Told.IsAt, declared.power.Power.Power}, proofs.Opens.{armed_off, armed_on}}
use Rattle.theorem.proofs.stories.armed.Goals as goal

pub returns-in-Off : goal.returns-in-Off
returns-in-Off c = λ size w at.
    let P : Power → Type 0 = λ p. IsAt size w p in
    armed_off size w _ _ _ _ c.args.fault (subst P c.in-Off.is at) c.arm.ensures.facts c.arm.ensures.armed

pub returns-in-On : goal.returns-in-On
returns-in-On c = λ size w at.
    let P : Power → Type 0 = λ p. IsAt size w p in
    let did = c.arm-in-On.ensures in
    armed_on size w (view_of c.in-On.store) (view_of c.arm-in-On.new.self) c.args.fault (subst P c.in-On.is at) did.board did.life did.armed
