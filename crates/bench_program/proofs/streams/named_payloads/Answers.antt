use Rattle.bench_program.proofs.Told.{unread_named}
use Rattle.bench_program.proofs.streams.named_payloads.Goals as goal

pub returns-in-Err-clause-failed : goal.returns-in-Err-clause-failed
returns-in-Err-clause-failed g c =
    unread_named c.args.options.now c.in-Err.fault.fault c.unread.result c.unread.ensures c.in-Err.ensures.failed c.in-Err.ensures.named
