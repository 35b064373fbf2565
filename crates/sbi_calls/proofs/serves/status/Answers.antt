use Rattle.std.proofs.Common.{ℕ, Ok, ap, refl, ◌∙◌}
use Rattle.hsm.specs.{Calls.code_of, Views.listed}
use Rattle.sbi_calls.specs.declared.endings.Ending.{Ending, TheVariants.Answers}
use Rattle.sbi_calls.proofs.serves.status.Goals as goal

abbrev answers : ℕ → Ending
answers n = Answers (Ok n)

pub returns-clause-gives : goal.returns-clause-gives
returns-clause-gives c = let kept = c.status-harts.ensures.stays in record {
  seats = (c.status-harts.ensures.seat, c.requires.seats.1);
  others = record { harts = kept.harts; stages = λ k st ne s. kept.stages k st s };
  pairs = record { harts = refl; each = λ h. refl };
}

pub returns-clause-acts : goal.returns-clause-acts
returns-clause-acts c = (c.status-harts.ensures.stays.stages _ _ c.requires.acts.0, c.requires.acts.1)

pub returns-clause-does : goal.returns-clause-does
returns-clause-does c = let s = c.status-harts.ensures.steps in (s.0, (s.2, refl), ap answers (c.code.ensures ∙ ap code_of s.1))

pub returns-clause-alone : goal.returns-clause-alone
returns-clause-alone c = λ t are. let a = c.status-harts.ensures.alone (listed t.states) are.0.1 in (ap answers (c.code.ensures ∙ ap code_of a.0), ((are.0.0, a.1), are.1))
