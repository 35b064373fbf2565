use Rattle.std.proofs.Common.{Bool, ap, sym, ◌∙◌}
use Rattle.hsm.specs.{States.grant, Views.listed}
use Rattle.sbi_calls.specs.{declared.endings.Ending.TheVariants.Answers, Answers.start_answer}
use Rattle.sbi_calls.proofs.serves.start.Goals as goal

pub returns-then-granted-clause-alone : goal.returns-then-granted-clause-alone
returns-then-granted-clause-alone c = λ t are.
    let a = c.start-harts.ensures.alone (listed t.states) are.0.1 in
    let e = sym c.if-granted.true ∙ a.0 in
    (ap (λ (g : Bool). Answers (start_answer g)) e, (c.seat_determines_states.ensures.changed _ c.args.target (grant c.args.site c.args.opaque) _ t.states are.0.0 c.requires.target a.1, are.1))

pub returns-else-granted-clause-alone : goal.returns-else-granted-clause-alone
returns-else-granted-clause-alone c = λ t are.
    let a = c.start-harts.ensures.alone (listed t.states) are.0.1 in
    let e = sym c.if-granted.false ∙ a.0 in
    (ap (λ (g : Bool). Answers (start_answer g)) e, (c.seat_determines_states.ensures.changed _ c.args.target (grant c.args.site c.args.opaque) _ t.states are.0.0 c.requires.target a.1, are.1))
