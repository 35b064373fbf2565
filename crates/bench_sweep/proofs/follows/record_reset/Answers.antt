use Rattle.std.proofs.Common.{sym, ap}
use Rattle.board_model.specs.declared.durable.Durable.{Durable}
use Rattle.bench_sweep.proofs.Followed.{reset_kept}
use Rattle.bench_sweep.proofs.follows.record_reset.Goals as goal

pub returns-clause-kept : goal.returns-clause-kept
returns-clause-kept c = reset_kept c.record_command.result c.args.ledger.now c.record_command.new.ledger c.args.board.now c.now.result.reason (ap (λ (d : Durable). d.reason) (sym c.now.ensures)) c.record_command.ensures.kept
