use Rattle.std.proofs.Common.{refl, sym, subst}
use Rattle.theorem.specs.{Story.{Now, Step}, Told.{IsAt, unpowered, arming, cut_off}, declared.asks.{Asked.Asked, Seen.TheVariants.Done}}
use Rattle.theorem.proofs.Opens.{opens_from}
use Rattle.theorem.proofs.stories.step.Goals as goal

pub returns-in-Open : goal.returns-in-Open
returns-in-Open g c = λ w at.
    let size = c.args.shape.now in
    let did = c.open.ensures size (unpowered w) (c.left.ensures.off size w at) in
    let P : Asked → Type 0 = λ a. (v : Now) × Step size w a c.open.result.1 v × IsAt size v c.open.result.0 in
    subst P (sym c.in-Open.is) (did.0, opens_from w did.0 c.open.result.1 did.1, did.2)

pub returns-in-Arm : goal.returns-in-Arm
returns-in-Arm g c = λ w at.
    let size = c.args.shape.now in
    let P : Asked → Type 0 = λ a. (v : Now) × Step size w a Done v × IsAt size v c.armed.result in
    subst P (sym c.in-Arm.is) (arming _ w, (refl, refl), c.armed.ensures size w at)

pub returns-in-Cut : goal.returns-in-Cut
returns-in-Cut g c = λ w at.
    let size = c.args.shape.now in
    let P : Asked → Type 0 = λ a. (v : Now) × Step size w a Done v × IsAt size v c.cut.result in
    subst P (sym c.in-Cut.is) (cut_off w, (refl, refl), c.cut.ensures size (unpowered w) (c.left-in-Cut.ensures.off size w at))

pub returns-in_default : goal.returns-in_default
returns-in_default g c = λ w at. c.called.ensures w at
