use Rattle.std.proofs.Common.{List, ◌∷◌, inl, inr, refl, subst, take, arith}
use Rattle.board_model.specs.declared.refusal.Refusal.TheVariants.{Memory}
use Rattle.script_lang.specs.{Scripts.script_of, Views.view, declared.line.Line.Line}
use Rattle.bench_report.{specs.{Bench.bench_with, Reports.{board_answer, IsReportWith}, Steps.Run}, proofs.Devices.may_find}
use Rattle.bench_report.proofs.{Found.all_found, Prefixed.{end_law, prefix_law}}
use Rattle.bench_report.proofs.Stopping.{no_fault, no_report, no_disk, none_idle, none_written, fault_or_memory, runs_nothing}
use Rattle.bench_report.proofs.runs.run_left_with.Goals as goal

pub returns-in_err-script-clause-report : goal.returns-in_err-script-clause-report
returns-in_err-script-clause-report g c = no_report c.from_residual.result c.in_err-script.field-0.0 c.from_residual.ensures.1 _

pub returns-in_err-script-clause-stopped : goal.returns-in_err-script-clause-stopped
returns-in_err-script-clause-stopped g c = no_disk c.from_residual.result c.in_err-script.field-0.0 c.from_residual.ensures.1 _

pub returns-in_err-script-clause-idle : goal.returns-in_err-script-clause-idle
returns-in_err-script-clause-idle g c = none_idle c.from_residual.result c.in_err-script.field-0.0 c.from_residual.ensures.1 _ _

pub returns-in_err-script-clause-refused : goal.returns-in_err-script-clause-refused
returns-in_err-script-clause-refused g c = fault_or_memory c.from_residual.result c.in_err-script.field-0.0 c.from_residual.ensures.1 (script_of c.args.script.now) c.in_err-script.ensures.value

pub returns-in_err-script-clause-nothing : goal.returns-in_err-script-clause-nothing
returns-in_err-script-clause-nothing g c = λ d is. runs_nothing c.from_residual.result c.in_err-script.field-0.0 c.from_residual.ensures.1 (script_of c.args.script.now) c.in_err-script.ensures.value (g.W.Write.contents c.args.out.now) d is

pub returns-in_err-script-clause-given : goal.returns-in_err-script-clause-given
returns-in_err-script-clause-given g c = none_written c.from_residual.result c.in_err-script.field-0.0 c.from_residual.ensures.1 (g.W.Write.contents c.args.out.now)

pub returns-in_err-bench-clause-report : goal.returns-in_err-bench-clause-report
returns-in_err-bench-clause-report g c = no_report c.from_residual-in_err-bench.result Memory c.from_residual-in_err-bench.ensures.1 _

pub returns-in_err-bench-clause-stopped : goal.returns-in_err-bench-clause-stopped
returns-in_err-bench-clause-stopped g c = no_disk c.from_residual-in_err-bench.result Memory c.from_residual-in_err-bench.ensures.1 _

pub returns-in_err-bench-clause-idle : goal.returns-in_err-bench-clause-idle
returns-in_err-bench-clause-idle g c = none_idle c.from_residual-in_err-bench.result Memory c.from_residual-in_err-bench.ensures.1 _ _

pub returns-in_err-bench-clause-refused : goal.returns-in_err-bench-clause-refused
returns-in_err-bench-clause-refused g c = fault_or_memory c.from_residual-in_err-bench.result Memory c.from_residual-in_err-bench.ensures.1 (script_of c.args.script.now) (inl refl)

pub returns-in_err-bench-clause-nothing : goal.returns-in_err-bench-clause-nothing
returns-in_err-bench-clause-nothing g c = λ d is. runs_nothing c.from_residual-in_err-bench.result Memory c.from_residual-in_err-bench.ensures.1 (script_of c.args.script.now) (inl refl) (g.W.Write.contents c.args.out.now) d is

pub returns-in_err-bench-clause-given : goal.returns-in_err-bench-clause-given
returns-in_err-bench-clause-given g c = none_written c.from_residual-in_err-bench.result Memory c.from_residual-in_err-bench.ensures.1 (g.W.Write.contents c.args.out.now)

pub returns-in-Ok-clause-report : goal.returns-in-Ok-clause-report
returns-in-Ok-clause-report g c =
    let script = c.in_ok-script.script in
    let size = script.shape in
    let payloads = c.args.payloads in
    let ok = rw c.in-Ok.is at c.run_lines-ran.ensures.ok in
    let ran = ok (bench_with payloads) c.in_ok-bench.ensures.shows in
    let P : List Line → Type 0 = λ ls. Run size (bench_with payloads) ls ran.0 ran.1 in
    let answers = board_answer size ∷ ran.0 in
    let is : IsReportWith payloads (view script) answers ran.1 = (refl, subst P c.deref.ensures.value ran.2) in
    let left = c.into_disk-left.ensures.left size ran.1 ran.3 in (
      view script,
      answers,
      ran.1,
      c.in_ok-script.ensures.value,
      is,
      ran.4,
      left,
      record {
        prefix = λ by. prefix_law payloads (view script) answers ran.1 by is;
        ends = λ by t leaves. end_law payloads (view script) answers ran.1 by is t (may_find size ran.1 c.into_disk-left.result left t leaves);
        all = λ by none. all_found payloads (view script) answers ran.1 by is (omega (arith, left.2.1, none));
      },
    )

pub returns-clause-stopped : goal.returns-clause-stopped
returns-clause-stopped g c =
    let script = c.in_ok-script.script in
    let size = script.shape in
    let payloads = c.args.payloads in
    let stopped = rw c.in-Err.is at c.run_lines-ran.ensures.stopped in
    let ran = stopped (bench_with payloads) c.in_ok-bench.ensures.shows in
    let P : List Line → Type 0 = λ ls. Run size (bench_with payloads) (take ran.0 ls) ran.1 ran.2 in
    (view script, board_answer size ∷ ran.1, ran.2, c.in_ok-script.ensures.value, (ran.0, (refl, subst P c.deref.ensures.value ran.3)), c.into_disk-left.ensures.left size ran.2 ran.4)

pub returns-in-Ok-clause-stopped : goal.returns-in-Ok-clause-stopped
returns-in-Ok-clause-stopped g c = tt

pub returns-in-Ok-clause-idle : goal.returns-in-Ok-clause-idle
returns-in-Ok-clause-idle g c = c.into_disk-left.ensures.idle

pub returns-in-Ok-clause-refused : goal.returns-in-Ok-clause-refused
returns-in-Ok-clause-refused g c = tt

pub returns-in-Ok-clause-nothing : goal.returns-in-Ok-clause-nothing
returns-in-Ok-clause-nothing g c = λ e is. absurd (no_fault (script_of c.args.script.now) (view c.in_ok-script.script) e c.in_ok-script.ensures.value is)

pub returns-in-Ok-clause-given : goal.returns-in-Ok-clause-given
returns-in-Ok-clause-given g c = tt

pub returns-clause-report : goal.returns-clause-report
returns-clause-report g c = tt

pub returns-clause-idle : goal.returns-clause-idle
returns-clause-idle g c = c.into_disk-left.ensures.idle

pub returns-clause-refused : goal.returns-clause-refused
returns-clause-refused g c = elim c.unwritten.ensures [
  | inl memory ↦ inl memory.1
  | inr output ↦ inr (inl output.1)
]

pub returns-clause-nothing : goal.returns-clause-nothing
returns-clause-nothing g c = λ e is. absurd (no_fault (script_of c.args.script.now) (view c.in_ok-script.script) e c.in_ok-script.ensures.value is)

pub returns-clause-given : goal.returns-clause-given
returns-clause-given g c = λ none. absurd (let never : ⊥ = cc in never)
