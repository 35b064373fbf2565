use Rattle.std.proofs.{Common.{◌∙◌, refl, sym}, lemmas.Result.{IfOk-from_err, MatchResult-from_err}}
use Rattle.bench_report.proofs.{Growths.{console_keeps, deed_grows, said_counts}, RunLines.on_err, Still.{is_other, unsaid}}
use Rattle.bench_report.specs.Deeds as deeds
use Rattle.bench_report.proofs.live.LiveBench.alone.Goals as goal

-- a command of the console
pub returns-in-Command-clause-said : goal.returns-in-Command-clause-said
returns-in-Command-clause-said g c = λ b was. (let did = c.console-answer.ensures c.args.setting.now.shape.now b was.0 in rw c.in-Command.is (did.0, did.1, tt, (did.2, was.1 ∙ sym did.3)))

pub returns-in-Command-clause-well : goal.returns-in-Command-clause-well
returns-in-Command-clause-well g c = λ enough b was.
    let did = c.console-answer.ensures c.args.setting.now.shape.now b was.0 in
    rw c.in-Command.is (did.0, did.1, tt, (did.2, was.1 ∙ sym did.3), console_keeps c.in-Command.command b.power b c.console-answer.result did.0 did.1)

pub returns-in-Command-clause-does : goal.returns-in-Command-clause-does
returns-in-Command-clause-does g c = rw c.in-Command.is (tt, tt, tt, tt)

pub returns-in-Command-clause-told : goal.returns-in-Command-clause-told
returns-in-Command-clause-told g c = c.lacked_memory-self.ensures

pub returns-in-Command-clause-fill : goal.returns-in-Command-clause-fill
returns-in-Command-clause-fill g c = rw c.in-Command.is refl

-- a power-on
pub returns-in-On-clause-said : goal.returns-in-On-clause-said
returns-in-On-clause-said g c = λ b was. (let did = c.replace_with.ensures.0 c.args.setting.now.shape.now b was.0 was.1 in rw c.in-On.is (did.0, did.1.0, did.1.1, (did.2, was.1 ∙ sym did.3)))

pub returns-in-On-clause-well : goal.returns-in-On-clause-well
returns-in-On-clause-well g c = λ enough b was.
    let did = c.replace_with.ensures.0 c.args.setting.now.shape.now b was.0 was.1 in
    let fed = (c.lacked_memory-self-in-On.ensures.0 enough).1 in
    let counts = said_counts c.replace_with.result.0.line b did.0 fed (deed_grows c.args.setting.now.shape.now (deeds.PowerOn c.in-On.mode) b c.replace_with.result.0 did.0 tt did.1.0) in
    rw c.in-On.is (did.0, did.1.0, did.1.1, (did.2, was.1 ∙ sym did.3), counts)

pub returns-in-On-clause-does : goal.returns-in-On-clause-does
returns-in-On-clause-does g c = rw c.in-On.is (tt, tt, tt, c.replace_with.ensures.1)

pub returns-in-On-clause-told : goal.returns-in-On-clause-told
returns-in-On-clause-told g c = c.lacked_memory-self-in-On.ensures

pub returns-in-On-clause-fill : goal.returns-in-On-clause-fill
returns-in-On-clause-fill g c = rw c.in-On.is refl

-- any other line
pub replace_with-requires-in_default : goal.replace_with-requires-in_default
replace_with-requires-in_default g c = (record { shared = c.type_bounds.sync-C-Handle.shared }, (c.requires.range, (is_other c.args.line.now c.requires.other c.in_default.not-On c.in_default.not-Command, c.requires.sound)))

pub returns-in_ok-answer-in_default-clause-said : goal.returns-in_ok-answer-in_default-clause-said
returns-in_ok-answer-in_default-clause-said g c = λ b was. (let did = (rw c.in_ok-answer-in_default.was at c.replace_with-in_default.ensures.0) b was in (did.0, did.1, unsaid c.args.line.now c.in_ok-answer-in_default.answer did.0 c.in_default.not-On, did.2))

pub returns-in_ok-answer-in_default-clause-well : goal.returns-in_ok-answer-in_default-clause-well
returns-in_ok-answer-in_default-clause-well g c = λ enough b was. (let did = (rw c.in_ok-answer-in_default.was at (c.replace_with-in_default.ensures.1.0 enough)) b was in (did.0, did.1, unsaid c.args.line.now c.in_ok-answer-in_default.answer did.0 c.in_default.not-On, did.2, did.3))

pub returns-in_ok-answer-in_default-clause-does : goal.returns-in_ok-answer-in_default-clause-does
returns-in_ok-answer-in_default-clause-does g c = rw c.in_ok-answer-in_default.was at c.replace_with-in_default.ensures.1.1.0

pub returns-in_ok-answer-in_default-clause-told : goal.returns-in_ok-answer-in_default-clause-told
returns-in_ok-answer-in_default-clause-told g c = rw c.in_ok-answer-in_default.was at c.replace_with-in_default.ensures.1.1.1.1.1.0

pub returns-in_ok-answer-in_default-clause-fill : goal.returns-in_ok-answer-in_default-clause-fill
returns-in_ok-answer-in_default-clause-fill g c = c.replace_with-in_default.ensures.1.1.1.1.1.1.0

pub returns-in_ok-answer-in_default-clause-slots : goal.returns-in_ok-answer-in_default-clause-slots
returns-in_ok-answer-in_default-clause-slots g c = c.replace_with-in_default.ensures.1.1.1.1.1.1.1

-- it was refused
pub returns-in_err-answer-in_default-clause-said : goal.returns-in_err-answer-in_default-clause-said
returns-in_err-answer-in_default-clause-said g c = IfOk-from_err c.from_residual.result _ c.from_residual.ensures.0

pub returns-in_err-answer-in_default-clause-well : goal.returns-in_err-answer-in_default-clause-well
returns-in_err-answer-in_default-clause-well g c = λ enough. IfOk-from_err c.from_residual.result _ c.from_residual.ensures.0

pub returns-in_err-answer-in_default-clause-does : goal.returns-in_err-answer-in_default-clause-does
returns-in_err-answer-in_default-clause-does g c = IfOk-from_err c.from_residual.result _ c.from_residual.ensures.0

pub returns-in_err-answer-in_default-clause-stopped : goal.returns-in_err-answer-in_default-clause-stopped
returns-in_err-answer-in_default-clause-stopped g c = on_err c.from_residual.result _ (rw c.in_err-answer-in_default.was at c.replace_with-in_default.ensures.1.1.1.0)

pub returns-in_err-answer-in_default-clause-refused : goal.returns-in_err-answer-in_default-clause-refused
returns-in_err-answer-in_default-clause-refused g c = on_err c.from_residual.result _ (rw c.in_err-answer-in_default.was at c.replace_with-in_default.ensures.1.1.1.1.0)

pub returns-in_err-answer-in_default-clause-told : goal.returns-in_err-answer-in_default-clause-told
returns-in_err-answer-in_default-clause-told g c = MatchResult-from_err c.from_residual.result _ _ c.from_residual.ensures.0 (λ y. (rw c.in_err-answer-in_default.was at c.replace_with-in_default.ensures.1.1.1.1.1.0))

pub returns-in_err-answer-in_default-clause-fill : goal.returns-in_err-answer-in_default-clause-fill
returns-in_err-answer-in_default-clause-fill g c = c.replace_with-in_default.ensures.1.1.1.1.1.1.0

pub returns-in_err-answer-in_default-clause-slots : goal.returns-in_err-answer-in_default-clause-slots
returns-in_err-answer-in_default-clause-slots g c = c.replace_with-in_default.ensures.1.1.1.1.1.1.1
