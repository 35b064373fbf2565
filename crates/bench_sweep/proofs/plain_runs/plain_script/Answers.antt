use Rattle.std.proofs.{Common.{All, List, inl, inr, ⊎_elim, subst}, lemmas.Result.IfOk-from_err}
use Rattle.board_model.proofs.Exits.{err_exit}
use Rattle.script_lang.specs.{Views.view, declared.line.Line.Line}
use Rattle.bench_sweep.{specs.Swept.{IsNotPlain, IsPlainLine}, proofs.Scripts.unswept}
use Rattle.bench_sweep.proofs.plain_runs.plain_script.Goals as goal

pub returns-clause-plain : goal.returns-clause-plain
returns-clause-plain c =
    let P : List Line → Type 0 = λ ls. All IsPlainLine ls in
    subst P c.deref.ensures.value c.in_ok-check_plain.ensures.plain

pub returns-clause-runs : goal.returns-clause-runs
returns-clause-runs c =
    let P : List Line → Type 0 = λ ls. IsNotPlain ls → ⊥ in
    subst P c.deref.ensures.value c.in_ok-check_plain.ensures.runs

pub returns-in_err-read-clause-refused : goal.returns-in_err-read-clause-refused
returns-in_err-read-clause-refused c = err_exit _ c.from_residual.result c.in_err-read.field-0.0 c.from_residual.ensures.1 (⊎_elim (λ memory. inl memory) (λ told. inr (inl told)) c.in_err-read.ensures.value)

pub returns-in_err-check_plain-clause-refused : goal.returns-in_err-check_plain-clause-refused
returns-in_err-check_plain-clause-refused c =
    let why = c.in_err-check_plain.ensures.refused in
    err_exit _ c.from_residual-in_err-check_plain.result c.in_err-check_plain.field-0.0 c.from_residual-in_err-check_plain.ensures.1 (inr (inr (why.0, unswept c.args.script.now (view c.in_ok-read.read) c.deref.result.now c.in_ok-read.ensures.value c.deref.ensures.value why.1)))

pub returns-in_err-read-clause-value : goal.returns-in_err-read-clause-value
returns-in_err-read-clause-value c = IfOk-from_err c.from_residual.result _ c.from_residual.ensures.0

pub returns-in_err-read-clause-ranges : goal.returns-in_err-read-clause-ranges
returns-in_err-read-clause-ranges c = IfOk-from_err c.from_residual.result _ c.from_residual.ensures.0

pub returns-in_err-read-clause-plain : goal.returns-in_err-read-clause-plain
returns-in_err-read-clause-plain c = IfOk-from_err c.from_residual.result _ c.from_residual.ensures.0

pub returns-in_err-read-clause-runs : goal.returns-in_err-read-clause-runs
returns-in_err-read-clause-runs c = IfOk-from_err c.from_residual.result _ c.from_residual.ensures.0

pub returns-in_err-check_plain-clause-value : goal.returns-in_err-check_plain-clause-value
returns-in_err-check_plain-clause-value c = IfOk-from_err c.from_residual-in_err-check_plain.result _ c.from_residual-in_err-check_plain.ensures.0

pub returns-in_err-check_plain-clause-ranges : goal.returns-in_err-check_plain-clause-ranges
returns-in_err-check_plain-clause-ranges c = IfOk-from_err c.from_residual-in_err-check_plain.result _ c.from_residual-in_err-check_plain.ensures.0

pub returns-in_err-check_plain-clause-plain : goal.returns-in_err-check_plain-clause-plain
returns-in_err-check_plain-clause-plain c = IfOk-from_err c.from_residual-in_err-check_plain.result _ c.from_residual-in_err-check_plain.ensures.0

pub returns-in_err-check_plain-clause-runs : goal.returns-in_err-check_plain-clause-runs
returns-in_err-check_plain-clause-runs c = IfOk-from_err c.from_residual-in_err-check_plain.result _ c.from_residual-in_err-check_plain.ensures.0
