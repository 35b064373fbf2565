use Rattle.std.proofs.Common.{None, Some}
use Rattle.bench_sweep.proofs.Followed.{commands_kept}
use Rattle.bench_sweep.proofs.follows.record_console.Goals as goal

pub returns-in-Acknowledged-clause-kept : goal.returns-in-Acknowledged-clause-kept
returns-in-Acknowledged-clause-kept c = commands_kept c.record_command.result c.args.ledger.now c.record_command.new.ledger c.args.said _ None c.args.command c.in-Acknowledged.is (λ old new t. t) (rw c.command.ensures at c.record_command.ensures.kept)

pub returns-in-CommandRefused-clause-kept : goal.returns-in-CommandRefused-clause-kept
returns-in-CommandRefused-clause-kept c =
    commands_kept c.record_command-in-CommandRefused.result c.args.ledger.now c.record_command-in-CommandRefused.new.ledger c.args.said _ (Some c.in-CommandRefused.number) c.args.command c.in-CommandRefused.is (λ old new t. t) (rw c.command-in-CommandRefused.ensures at c.record_command-in-CommandRefused.ensures.kept)
