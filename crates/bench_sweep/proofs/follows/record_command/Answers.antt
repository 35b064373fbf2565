use Rattle.board_model.specs.Views.{change_in}
use Rattle.bench_sweep.proofs.Followed.{taken, already, refused_kept, refused_already}
use Rattle.bench_sweep.proofs.follows.record_command.Goals as goal

pub returns-in-Ok-clause-kept : goal.returns-in-Ok-clause-kept
returns-in-Ok-clause-kept c = λ size old new was carries told. taken size _ _ _ old new was carries c.args.refused told c.in-Ok.ensures.kept

pub returns-in-Ok-clause-already : goal.returns-in-Ok-clause-already
returns-in-Ok-clause-already c = λ size kept d n was is said. already size _ _ _ d n kept c.args.refused was is said c.in-Ok.ensures.kept

pub returns-in-Err-clause-kept : goal.returns-in-Err-clause-kept
returns-in-Err-clause-kept c =
    refused_kept c.only_memory.result c.args.ledger.now c.answered.new.self c.args.refused (change_in c.args.entry c.args.memory.now) c.in-Err.refusal c.in-Err.ensures.refused c.only_memory.ensures.other

pub returns-in-Err-clause-already : goal.returns-in-Err-clause-already
returns-in-Err-clause-already c = refused_already c.only_memory.result c.args.ledger.now c.answered.new.self c.args.refused c.in-Err.ensures.refused.0
