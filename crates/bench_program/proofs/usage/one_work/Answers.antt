use Rattle.std.proofs.Common.{◌∙◌, sym, inr}
use Rattle.bench_program.proofs.usage.one_work.Goals as goal

pub returns-in-Some-clause-named : goal.returns-in-Some-clause-named
returns-in-Some-clause-named c =
    let asked = c.work_asked.ensures.value in
    (asked.0, sym asked.2 ∙ c.in-Some.is, asked.1)

pub returns-in_ok-error-in-None-clause-conflict : goal.returns-in_ok-error-in-None-clause-conflict
returns-in_ok-error-in-None-clause-conflict c =
    let asked = c.work_asked.ensures.value in
    inr (c.in_ok-error-in-None.ensures.kind, (asked.0, sym asked.2 ∙ c.in-None.is))
