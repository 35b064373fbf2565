use Rattle.bench_program.proofs.usage.options_in.Goals as goal

pub returns-clause-named : goal.returns-clause-named
returns-clause-named c =
    let asked = c.in-Ok.ensures.named in
    (asked.0, asked.1, asked.2, c.in_ok-payloads.ensures, c.in_ok-script.ensures.named)
