use Rattle.std.proofs.{Common.{inr, inl, ⊎_elim, refl}, lemmas.Result.IfOk-from_err}
use Rattle.script_lang.specs.Views.{view}
use Rattle.bench_sweep.proofs.Scripts.{swept, no_fault, fault_told, plain_told}
use Rattle.board_model.proofs.Exits.{err_exit}
use Rattle.bench_sweep.proofs.sweeps.run_bench.Goals as goal

pub returns-in-Ok-clause-plain : goal.returns-in-Ok-clause-plain
returns-in-Ok-clause-plain g c = λ said is none. swept c.args.script.now (view c.in_ok-script.script) said c.in_ok-script.script.lines.items c.in_ok-script.ensures.value is refl c.in_ok-script.ensures.runs none

pub returns-clause-plain : goal.returns-clause-plain
returns-clause-plain g c = λ said is none. swept c.args.script.now (view c.in_ok-script.script) said c.in_ok-script.script.lines.items c.in_ok-script.ensures.value is refl c.in_ok-script.ensures.runs none

pub returns-in-Ok-clause-wrote : goal.returns-in-Ok-clause-wrote
returns-in-Ok-clause-wrote g c = (view c.in_ok-script.script, c.in_ok-script.ensures.value, c.in-Ok.ensures.wrote)

pub returns-in_err-script-clause-refused : goal.returns-in_err-script-clause-refused
returns-in_err-script-clause-refused g c = err_exit _ c.from_residual.result c.in_err-script.field-0.0 c.from_residual.ensures.1 (⊎_elim (λ memory. inl memory) (λ why. inr (inr why)) c.in_err-script.ensures.refused)

pub returns-clause-refused : goal.returns-clause-refused
returns-clause-refused g c = ⊎_elim (λ memory. inl memory.1) (λ output. inr (inl output.1)) c.unwritten.ensures

pub returns-in_err-script-clause-nothing : goal.returns-in_err-script-clause-nothing
returns-in_err-script-clause-nothing g c = λ e fault. (refl, fault_told c.args.script.now c.from_residual.result _ e c.from_residual.ensures.1 c.in_err-script.ensures.refused fault)

pub returns-in_err-script-clause-plain : goal.returns-in_err-script-clause-plain
returns-in_err-script-clause-plain g c = λ said is none. (refl, plain_told c.args.script.now c.from_residual.result _ said c.from_residual.ensures.1 c.in_err-script.ensures.refused is)

pub returns-in-Ok-clause-nothing : goal.returns-in-Ok-clause-nothing
returns-in-Ok-clause-nothing g c = λ e fault. no_fault c.args.script.now (view c.in_ok-script.script) e c.in_ok-script.ensures.value fault

pub returns-clause-nothing : goal.returns-clause-nothing
returns-clause-nothing g c = λ e fault. no_fault c.args.script.now (view c.in_ok-script.script) e c.in_ok-script.ensures.value fault

pub returns-in_err-script-clause-wrote : goal.returns-in_err-script-clause-wrote
returns-in_err-script-clause-wrote g c = IfOk-from_err c.from_residual.result _ c.from_residual.ensures.0
