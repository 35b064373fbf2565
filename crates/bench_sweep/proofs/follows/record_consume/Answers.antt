use Rattle.std.{proofs.Common.{ℕ, None, Some, subst}, specs.Prelude.Option}
use Rattle.board_model.specs.Durable.{Consume}
use Rattle.bench_sweep.{specs.{Told.IssuedTold, Resumes.{image_told, consumed}}, proofs.Followed.{weaker, issued_told}}
use Rattle.bench_sweep.proofs.Serials.{kept_none, as_told}
use Rattle.bench_sweep.proofs.follows.record_consume.Goals as goal

pub returns-in-None-clause-kept : goal.returns-in-None-clause-kept
returns-in-None-clause-kept c =
    weaker c.record_resume.result c.args.ledger.now c.record_resume.new.ledger (IssuedTold None Consume) (IssuedTold c.args.refused Consume)
    (λ old new t. (let P : Option ℕ → Type 0 = λ o. IssuedTold o Consume old new in subst P c.in-None.is t)) c.record_resume.ensures.kept

pub returns-in-Some-clause-kept : goal.returns-in-Some-clause-kept
returns-in-Some-clause-kept c = issued_told c.record_command.result c.args.ledger.now c.record_command.new.ledger c.args.refused Consume (λ size. tt) c.record_command.ensures.kept

pub returns-in-None-clause-serial : goal.returns-in-None-clause-serial
returns-in-None-clause-serial c =
    let l = c.args.ledger.now in
    as_told c.record_resume.result l c.record_resume.new.ledger (λ (o : Option ℕ). consumed o (image_told l)) c.args.refused None c.in-None.is c.record_resume.ensures.serial

pub returns-in-Some-clause-serial : goal.returns-in-Some-clause-serial
returns-in-Some-clause-serial c =
    let l = c.args.ledger.now in
    let m = c.record_command.new.ledger in
    as_told c.record_command.result l m (λ (o : Option ℕ). consumed o (image_told l)) c.args.refused (Some _) c.in-Some.is (kept_none c.record_command.result l m c.record_command.ensures.resumed)
