use Rattle.std.proofs.{Common.{inl, inr, ⊎_elim, refl}, lemmas.Result.{on_ok_weaker, IfOk-from_err}}
use Rattle.script_lang.specs.Views.{view}
use Rattle.bench_sweep.proofs.{Scripts.{swept, no_fault, fault_told, plain_told}, ShownRows.refused_row}
use Rattle.board_model.proofs.Exits.{err_exit}
use Rattle.bench_sweep.proofs.shown.show_row.Goals as goal

pub returns-clause-plain : goal.returns-clause-plain
returns-clause-plain g c = λ said is none. swept c.args.script.now (view c.in_ok-script.script) said c.in_ok-script.script.lines.items c.in_ok-script.ensures.value is refl c.in_ok-script.ensures.runs none

pub returns-clause-shown : goal.returns-clause-shown
returns-clause-shown g c = on_ok_weaker c.show_plain_script.result (λ did. (view c.in_ok-script.script, c.in_ok-script.ensures.value, did)) c.show_plain_script.ensures.shown

pub returns-clause-refused : goal.returns-clause-refused
returns-clause-refused g c = refused_row _ _ c.show_plain_script.result (λ none. (view c.in_ok-script.script, c.in_ok-script.ensures.value, none)) c.show_plain_script.ensures.refused

pub returns-in_err-script-clause-refused : goal.returns-in_err-script-clause-refused
returns-in_err-script-clause-refused g c = err_exit _ c.from_residual.result c.in_err-script.field-0.0 c.from_residual.ensures.1
    (⊎_elim (λ memory. inl memory) (λ why. inr (inr (⊎_elim (λ told. inl told) (λ none. inr (inl none)) why))) c.in_err-script.ensures.refused)

pub returns-in_err-script-clause-nothing : goal.returns-in_err-script-clause-nothing
returns-in_err-script-clause-nothing g c = λ e fault. (refl, fault_told c.args.script.now c.from_residual.result _ e c.from_residual.ensures.1 c.in_err-script.ensures.refused fault)

pub returns-in_err-script-clause-plain : goal.returns-in_err-script-clause-plain
returns-in_err-script-clause-plain g c = λ said is none. (refl, plain_told c.args.script.now c.from_residual.result _ said c.from_residual.ensures.1 c.in_err-script.ensures.refused is)

pub returns-clause-none : goal.returns-clause-none
returns-clause-none g c = c.show_plain_script.ensures.none

pub returns-clause-nothing : goal.returns-clause-nothing
returns-clause-nothing g c = λ e fault. no_fault c.args.script.now (view c.in_ok-script.script) e c.in_ok-script.ensures.value fault

pub returns-in_err-script-clause-none : goal.returns-in_err-script-clause-none
returns-in_err-script-clause-none g c = λ is. refl

pub returns-in_err-script-clause-shown : goal.returns-in_err-script-clause-shown
returns-in_err-script-clause-shown g c = IfOk-from_err c.from_residual.result _ c.from_residual.ensures.0
