use Rattle.std.proofs.{Common.{◌+◌, ◌∙◌, arith, ap, get_or, List, [], ◌∷◌, ◌++◌, refl, subst, sym}, lemmas.List.take_all}
use Rattle.std.proofs.lemmas.Result.{IfOk-from_err}
use Rattle.script_lang.specs.declared.line.Line.{Line}
use Rattle.bench_report.{specs.{Agree.{fill_after, fills_after}, Reports.board_answer, Steps.{Moves, Run}}, proofs.Told.reported_more}
use Rattle.bench_report.proofs.RunLines.{few_found, fills_more, on_err, run_more}
use Rattle.bench_report.proofs.runs.run_lines.Goals as goal

pub loop-line-init : goal.loop-line-init
loop-line-init g c = record {
  few = omega (arith, c.in_ok-report.ensures.lines);
  fill = refl;
  sound = c.requires.sound;
  reported = λ b h. ([], b, refl, h, c.in_ok-report.ensures.ok);
}

pub loop-line-preserved : goal.loop-line-preserved
loop-line-preserved g c =
    let size = c.args.setting.now.shape.now in
    let i = c.loop-line.invariant in
    let answer = c.in_ok-answer.answer in
    let added = c.in_ok-add.ensures.ok in
    let ran = c.in_ok-answer.ensures in
    let counted = few_found answer.found in
    record {
      few = omega (arith, added.lines, counted, i.few);
      fill = ran.fill ∙ ap (λ (line : Line). fill_after line c.loop-line.bench.fill) c.line-item.is ∙ ap (fill_after (get_or c.args.lines.now c.loop-line.line-index c.line-item.result)) i.fill ∙ sym (fills_more c.args.lines.now c.loop-line.line-index c.line-item.result c.args.bench.now.fill c.loop-line-test.true);
      sound = ran.sound;
      reported = λ b h.
          let was = i.reported b h in
          let did = ran.reported was.1 was.3 in
          let Q : Line → Type 0 = λ line. Moves size line was.1 answer did.0 in
          (was.0 ++ answer ∷ [], did.0, run_more size c.args.lines.now c.loop-line.line-index c.line-item.result b was.0 was.1 answer did.0 c.loop-line-test.true was.2 (subst Q c.line-item.is did.1), did.2, reported_more _ _ _ _ _ (board_answer size ∷ was.0) answer was.4 added);
    }

pub returns-in_err-report-clause-fill : goal.returns-in_err-report-clause-fill
returns-in_err-report-clause-fill g c = IfOk-from_err c.from_residual.result _ c.from_residual.ensures.0

pub returns-in_err-answer-clause-fill : goal.returns-in_err-answer-clause-fill
returns-in_err-answer-clause-fill g c = IfOk-from_err c.from_residual-in_err-answer.result _ c.from_residual-in_err-answer.ensures.0

pub returns-in_err-add-clause-fill : goal.returns-in_err-add-clause-fill
returns-in_err-add-clause-fill g c = IfOk-from_err c.from_residual-in_err-add.result _ c.from_residual-in_err-add.ensures.0

pub returns-clause-fill : goal.returns-clause-fill
returns-clause-fill g c = c.loop-line.invariant.fill ∙ ap (λ (ls : List Line). fills_after ls c.args.bench.now.fill) (take_all c.loop-line.line-index c.args.lines.now (omega arith))

pub returns-in_err-report-clause-ok : goal.returns-in_err-report-clause-ok
returns-in_err-report-clause-ok g c = IfOk-from_err c.from_residual.result _ c.from_residual.ensures.0

pub returns-in_err-report-clause-stopped : goal.returns-in_err-report-clause-stopped
returns-in_err-report-clause-stopped g c = on_err c.from_residual.result _ (λ b h. (0, [], b, refl, h))

pub returns-in_err-answer-clause-ok : goal.returns-in_err-answer-clause-ok
returns-in_err-answer-clause-ok g c = IfOk-from_err c.from_residual-in_err-answer.result _ c.from_residual-in_err-answer.ensures.0

pub returns-in_err-answer-clause-stopped : goal.returns-in_err-answer-clause-stopped
returns-in_err-answer-clause-stopped g c = on_err c.from_residual-in_err-answer.result _
    (λ b h. let was = c.loop-line.invariant.reported b h in (c.loop-line.line-index, was.0, was.1, was.2, c.in_err-answer.ensures.stopped was.1 was.3))

pub returns-in_err-add-clause-ok : goal.returns-in_err-add-clause-ok
returns-in_err-add-clause-ok g c = IfOk-from_err c.from_residual-in_err-add.result _ c.from_residual-in_err-add.ensures.0

pub returns-in_err-add-clause-stopped : goal.returns-in_err-add-clause-stopped
returns-in_err-add-clause-stopped g c = on_err c.from_residual-in_err-add.result _
    (λ b h.
    let was = c.loop-line.invariant.reported b h in
    let did = c.in_ok-answer.ensures.reported was.1 was.3 in
    let Q : Line → Type 0 = λ line. Moves c.args.setting.now.shape.now line was.1 c.in_ok-answer.answer did.0 in
    (c.loop-line.line-index + 1, was.0 ++ c.in_ok-answer.answer ∷ [], did.0, run_more c.args.setting.now.shape.now c.args.lines.now c.loop-line.line-index c.line-item.result b was.0 was.1 c.in_ok-answer.answer did.0 c.loop-line-test.true was.2 (subst Q c.line-item.is did.1), did.2))

pub returns-clause-ok : goal.returns-clause-ok
returns-clause-ok g c = λ b h.
    let was = c.loop-line.invariant.reported b h in
    let P : List Line → Type 0 = λ ls. Run c.args.setting.now.shape.now b ls was.0 was.1 in
    (was.0, was.1, subst P (take_all c.loop-line.line-index c.args.lines.now (omega arith)) was.2, was.3, was.4)
