use Rattle.std.proofs.Common.{◌∙◌, refl, sym}
use Rattle.bench_report.proofs.live.LiveBench.strike.Goals as goal

pub returns-then-struck-clause-told : goal.returns-then-struck-clause-told
returns-then-struck-clause-told c = λ size b agrees. sym c.if-struck.true ∙ c.struck.ensures.reported size b agrees

pub returns-then-struck-clause-kept : goal.returns-then-struck-clause-kept
returns-then-struck-clause-kept c = λ e. absurd (let no : ⊥ = cc in no)

pub returns-then-struck-clause-lost : goal.returns-then-struck-clause-lost
returns-then-struck-clause-lost c = λ e size b agrees. c.replace_with.ensures.0 size b agrees

pub returns-then-struck-clause-exact : goal.returns-then-struck-clause-exact
returns-then-struck-clause-exact c = λ e. c.replace_with.ensures.1.0

pub returns-then-struck-clause-sound : goal.returns-then-struck-clause-sound
returns-then-struck-clause-sound c = c.replace_with.ensures.1.1

pub returns-clause-told : goal.returns-clause-told
returns-clause-told c = λ size b agrees. sym c.if-struck.false ∙ c.struck.ensures.reported size b agrees

pub returns-clause-kept : goal.returns-clause-kept
returns-clause-kept c = λ e. refl

pub returns-clause-lost : goal.returns-clause-lost
returns-clause-lost c = λ e. absurd (let no : ⊥ = cc in no)

pub returns-clause-exact : goal.returns-clause-exact
returns-clause-exact c = λ e. absurd (let no : ⊥ = cc in no)

pub returns-clause-sound : goal.returns-clause-sound
returns-clause-sound c = c.struck.ensures.calm c.if-struck.false
