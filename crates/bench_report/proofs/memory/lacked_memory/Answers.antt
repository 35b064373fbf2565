use Rattle.bench_report.proofs.Still.{not_true}
use Rattle.bench_report.proofs.memory.lacked_memory.Goals as goal

pub returns-then-says_refused_memory : goal.returns-then-says_refused_memory
returns-then-says_refused_memory c = (λ e. absurd (let no : ⊥ = cc in no), λ enough. absurd (c.says_refused_memory.ensures.refused c.if-says_refused_memory.true enough.1))

pub returns : goal.returns
returns c = (
  λ e. (c.refused_suspension.ensures.enough e, c.says_refused_memory.ensures.enough c.if-says_refused_memory.false),
  λ enough. not_true c.refused_suspension.result (λ e. c.refused_suspension.ensures.refused e enough.0),
)
