use Rattle.bench_sweep.proofs.begins.run_before_format.Goals as goal

pub returns-clause-moved : goal.returns-clause-moved
returns-clause-moved g c = λ b shows.
    let did = c.in_ok-answer.ensures.well c.if-bench.false b shows in
    (c.in_ok-answer.answer, did.0, did.1, did.2, did.3, c.is_formatted.ensures.0)
