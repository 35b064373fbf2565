use Rattle.board_model.specs.Durable.{Consume}
use Rattle.bench_sweep.proofs.{Followed.{acknowledged, no_resume}, Serials.{one_more, no_serial}}
use Rattle.bench_sweep.proofs.follows.record_resume.Goals as goal

pub returns-in-Ok-clause-kept : goal.returns-in-Ok-clause-kept
returns-in-Ok-clause-kept c = λ size old new was told. acknowledged size _ _ Consume old new was tt told.0 told.2 (c.in-Ok.ensures.kept old was.tells told.0)

pub returns-in-Err-clause-kept : goal.returns-in-Err-clause-kept
returns-in-Err-clause-kept c = no_resume c.only_memory.result c.args.ledger.now c.resumes.new.self c.in-Err.refusal c.in-Err.ensures.refused c.only_memory.ensures.other

pub returns-in-Ok-clause-serial : goal.returns-in-Ok-clause-serial
returns-in-Ok-clause-serial c = let more = c.in-Ok.ensures.resumed in one_more c.args.ledger.now c.resumes.new.self more.0 more.1 more.2

pub returns-in-Err-clause-serial : goal.returns-in-Err-clause-serial
returns-in-Err-clause-serial c = no_serial c.only_memory.result c.args.ledger.now c.resumes.new.self c.in-Err.refusal c.in-Err.ensures.refused c.only_memory.ensures.other
