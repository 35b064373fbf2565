use Rattle.bench_program.proofs.Told.{unread_script}
use Rattle.bench_program.proofs.streams.named_script.Goals as goal

pub returns-clause-failed : goal.returns-clause-failed
returns-clause-failed g c = unread_script c.args.options.now c.args.options.now.script _ _ _ c.unread.result c.unread.ensures c.new.ensures (λ some. some) c.in-Some.is
