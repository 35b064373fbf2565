use Rattle.std.proofs.Common.{Option, subst}
use Rattle.board_model.specs.{Durable.Attempt, declared.durable.Trial.Trial}
use Rattle.board.specs.Moments.{attempts_of}
use Rattle.bench_sweep.{specs.Told.{IssuedTold, BootTold}, proofs.{Boots.{one_told, none_told}, Followed.{as_before, weaker, issued_told}}}
use Rattle.bench_sweep.proofs.follows.record_attempt.Goals as goal

pub returns-in-None-clause-kept : goal.returns-in-None-clause-kept
returns-in-None-clause-kept c = λ size old new was told.
    let P : Option Trial → Type 0 = λ t. BootTold c.args.refused (attempts_of t) old new in
    as_before size c.args.ledger.now old new was (none_told c.args.refused old new (subst P c.in-None.is told))

pub returns-in-Some-clause-kept : goal.returns-in-Some-clause-kept
returns-in-Some-clause-kept c =
    weaker c.record_command.result c.args.ledger.now c.record_command.new.ledger (IssuedTold c.args.refused Attempt) (BootTold c.args.refused (attempts_of c.args.trial))
    (λ old new told. (let P : Option Trial → Type 0 = λ t. BootTold c.args.refused (attempts_of t) old new in one_told c.args.refused Attempt old new (subst P c.in-Some.is told)))
    (issued_told c.record_command.result c.args.ledger.now c.record_command.new.ledger c.args.refused Attempt (λ size. tt) c.record_command.ensures.kept)
