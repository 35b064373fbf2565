use Rattle.std.proofs.Common.{◌∙◌}
use Rattle.bench_sweep.proofs.KnownLedgers.{right_found}
use Rattle.bench_sweep.proofs.finds.count_run.Goals as goal

pub returns-clause-judged : goal.returns-clause-judged
returns-clause-judged c =
    let l = c.requires in
    let f = c.in_ok-found.ensures.finds l.1 l.0 c.args.ledger.now l.2 in
    record { plain = f.plain; right = right_found c.args.ledger.now f.kept f.plain f.tells f.may; says = f.says }

pub returns-clause-right : goal.returns-clause-right
returns-clause-right c =
    let l = c.requires in
    let f = c.in_ok-found.ensures.finds l.1 l.0 c.args.ledger.now l.2 in
    c.counts.ensures.allowed f.kept f.plain f.tells f.may (c.as_ref.ensures.value ∙ f.is)
