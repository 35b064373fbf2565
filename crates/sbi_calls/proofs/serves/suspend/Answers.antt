use Rattle.std.proofs.Common.{refl}
use Rattle.hsm.specs.{States.{HartState, suspended}, Views.listed}
use Rattle.sbi_calls.proofs.serves.suspend.Goals as goal

pub returns-clause-does : goal.returns-clause-does
returns-clause-does c = let s = c.suspend-harts.ensures.steps in (s.0, (s.1, refl), refl)

pub returns-clause-alone : goal.returns-clause-alone
returns-clause-alone c = λ t are.
    let a = c.suspend-harts.ensures.alone (listed t.states) are.0.1 in
    (refl, (c.seat_determines_states.ensures.changed _ c.args.by (λ (x : HartState). suspended) _ t.states are.0.0 c.requires.by a.1, are.1))
