use Rattle.std.proofs.Common.{◌≡◌, true, false, refl}
use Rattle.bench_sweep.proofs.Boots.{stopped_late, stopped_first}
use Rattle.bench_sweep.proofs.follows.record_stopped_discard.Goals as goal

pub returns-in_ok-record_command-clause-kept : goal.returns-in_ok-record_command-clause-kept
returns-in_ok-record_command-clause-kept c =
    stopped_late c.record_attempt.result c.args.ledger.now c.record_command.new.ledger c.record_attempt.new.ledger c.args.found.now c.args.now c.args.number (c.if-is_dropped.ensures.0 refl) c.in_ok-record_command.ensures.kept c.record_attempt.ensures.kept

pub returns-else-is_dropped-clause-kept : goal.returns-else-is_dropped-clause-kept
returns-else-is_dropped-clause-kept c =
    stopped_first c.record_command-else-is_dropped.result c.args.ledger.now c.record_command-else-is_dropped.new.ledger c.args.found.now c.args.now c.args.number (λ x. (let e : false ≡ true = c.if-is_dropped.ensures.1 x in let no : ⊥ = cc in no)) c.record_command-else-is_dropped.ensures.kept
