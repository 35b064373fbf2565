use Rattle.std.{proofs.Common.{ℕ, ◌∷◌, None, Some, subst}, specs.Prelude.Option}
use Rattle.board_model.specs.Durable.{Discard}
use Rattle.board.specs.Moments.{attempts_of}
use Rattle.bench_sweep.{specs.Told.BootTold, proofs.Boots.{made_both, boot_weaker}}
use Rattle.bench_sweep.proofs.follows.record_discard.Goals as goal

pub returns-in_ok-record_command-in-None-clause-kept : goal.returns-in_ok-record_command-in-None-clause-kept
returns-in_ok-record_command-in-None-clause-kept c =
    boot_weaker c.record_attempt.result c.args.ledger.now c.record_attempt.new.ledger c.args.found.now c.args.now (BootTold None (Discard ∷ attempts_of c.args.found.now.trial)) (BootTold c.args.refused (Discard ∷ attempts_of c.args.found.now.trial))
    (λ old new t. (let P : Option ℕ → Type 0 = λ o. BootTold o (Discard ∷ attempts_of c.args.found.now.trial) old new in subst P c.in-None.is t))
    (made_both c.record_attempt.result c.args.ledger.now c.record_command.new.ledger c.record_attempt.new.ledger c.args.found.now c.args.now c.in_ok-record_command-in-None.ensures.kept c.record_attempt.ensures.kept)

pub returns-in-Some-clause-kept : goal.returns-in-Some-clause-kept
returns-in-Some-clause-kept c =
    boot_weaker c.record_stopped_discard.result c.args.ledger.now c.record_stopped_discard.new.ledger c.args.found.now c.args.now (BootTold (Some c.in-Some.number) (Discard ∷ attempts_of c.args.found.now.trial)) (BootTold c.args.refused (Discard ∷ attempts_of c.args.found.now.trial))
    (λ old new t. (let P : Option ℕ → Type 0 = λ o. BootTold o (Discard ∷ attempts_of c.args.found.now.trial) old new in subst P c.in-Some.is t)) c.record_stopped_discard.ensures.kept
