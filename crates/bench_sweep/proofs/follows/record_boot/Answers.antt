use Rattle.std.proofs.Common.{inl, inr, subst}
use Rattle.board_model.specs.{Durable.Consume, declared.boot_mode.BootMode.BootMode}
use Rattle.board_model.specs.declared.boot_mode.BootMode.TheVariants as modes
use Rattle.board.specs.Moments.{attempts_of}
use Rattle.bench_sweep.specs.{Resumes.{image_told, booted}, Told.{IssuedTold, BootTold, commands_told}}
use Rattle.bench_sweep.proofs.{Boots.{one_told, boot_of, boot_weaker}, Serials.{kept_none, as_told}}
use Rattle.bench_sweep.proofs.follows.record_boot.Goals as goal

pub returns-in-Fresh-clause-kept : goal.returns-in-Fresh-clause-kept
returns-in-Fresh-clause-kept c =
    boot_of c.record_attempt.result c.args.ledger.now c.record_attempt.new.ledger c.args.found.now c.args.now (BootTold c.args.refused (attempts_of c.args.found.now.trial)) (BootTold c.args.refused (commands_told c.args.mode c.args.found.now.trial))
    (λ old new t. (let P : BootMode → Type 0 = λ m. BootTold c.args.refused (commands_told m c.args.found.now.trial) old new in elim c.in-Fresh.is [ inl e ↦ subst P e t | inr e ↦ subst P e t ])) c.record_attempt.ensures.kept

pub returns-in-Discard-clause-kept : goal.returns-in-Discard-clause-kept
returns-in-Discard-clause-kept c =
    boot_weaker c.record_discard.result c.args.ledger.now c.record_discard.new.ledger c.args.found.now c.args.now _ (BootTold c.args.refused (commands_told c.args.mode c.args.found.now.trial))
    (λ old new t. (let P : BootMode → Type 0 = λ m. BootTold c.args.refused (commands_told m c.args.found.now.trial) old new in subst P c.in-Discard.is t)) c.record_discard.ensures.kept

pub returns-in-Resume-clause-kept : goal.returns-in-Resume-clause-kept
returns-in-Resume-clause-kept c =
    boot_of c.record_consume.result c.args.ledger.now c.record_consume.new.ledger c.args.found.now c.args.now (IssuedTold c.args.refused Consume) (BootTold c.args.refused (commands_told c.args.mode c.args.found.now.trial))
    (λ old new t. (let P : BootMode → Type 0 = λ m. BootTold c.args.refused (commands_told m c.args.found.now.trial) old new in one_told c.args.refused Consume old new (subst P c.in-Resume.is t))) c.record_consume.ensures.kept

pub returns-in-Fresh-clause-serial : goal.returns-in-Fresh-clause-serial
returns-in-Fresh-clause-serial c =
    let l = c.args.ledger.now in
    let m = c.record_attempt.new.ledger in
    let none = kept_none c.record_attempt.result l m c.record_attempt.ensures.resumed in
    elim c.in-Fresh.is [
      | inl e ↦ as_told c.record_attempt.result l m (λ (b : BootMode). booted c.args.refused b (image_told l)) c.args.mode modes.Fresh e none
      | inr e ↦ as_told c.record_attempt.result l m (λ (b : BootMode). booted c.args.refused b (image_told l)) c.args.mode modes.Keep e none
    ]

pub returns-in-Discard-clause-serial : goal.returns-in-Discard-clause-serial
returns-in-Discard-clause-serial c =
    let l = c.args.ledger.now in
    as_told c.record_discard.result l c.record_discard.new.ledger (λ (b : BootMode). booted c.args.refused b (image_told l)) c.args.mode modes.Discard c.in-Discard.is (kept_none c.record_discard.result l c.record_discard.new.ledger c.record_discard.ensures.resumed)

pub returns-in-Resume-clause-serial : goal.returns-in-Resume-clause-serial
returns-in-Resume-clause-serial c =
    let l = c.args.ledger.now in
    as_told c.record_consume.result l c.record_consume.new.ledger (λ (b : BootMode). booted c.args.refused b (image_told l)) c.args.mode modes.Resume c.in-Resume.is c.record_consume.ensures.serial
