use Rattle.std.proofs.Common.{◌≡◌, ◌∙◌, ◌+◌, ◌++◌, [], List, Vec, Global, take, ap, refl, sym, subst, arith}
use Rattle.std.proofs.lemmas.List.{append-nil, take_all}
use Rattle.script_lang.specs.declared.line.Line.{Line}
use Rattle.report_lines.specs.declared.printed.Answer.{Answer}
use Rattle.bench_schedules.{specs.{Orders.is_other, RunSoFar.RunSoFar, Schedules.other_answer}, proofs.Lines.{goes_begun, goes_more}}
use Rattle.bench_schedules.proofs.own_runs.run_lines.Goals.{in-Some+in_ok-push, in_default}
use Rattle.bench_report.specs.Bench.{bench_with}
use Rattle.bench_schedules.proofs.own_runs.run_lines.Goals as goal

abbrev items : Vec Answer Global → List Answer
items v = v.items

pub loop-line-init : goal.loop-line-init
loop-line-init g c =
    let size = c.args.setting.now.shape.now in
    record {
      sound = c.requires.sound;
      place = refl;
      goes = λ start shows.
          let P : List Answer → Type 0 = λ x. RunSoFar size (bench_with start) [] x c.args.live.now in
          subst P (sym c.new-answers.ensures.items) (goes_begun size start c.args.live.now shows);
    }

pub loop-line-preserved : goal.loop-line-preserved
loop-line-preserved g c =
    let size = c.args.setting.now.shape.now in
    let i = c.loop-line.invariant in
    let more = other_answer (is_other c.line-item.result) c.in_ok-answer.answer in
    let kept : c.match-other_answer.answers.items ≡ c.loop-line.answers.items ++ more = elim c.match-other_answer.branch [
      | in-Some+in_ok-push w ↦ ap items w.answers-is ∙ w.in_ok-push.ensures.items ∙ ap (λ x. c.loop-line.answers.items ++ x) w.in-Some.ensures
      | in_default w ↦ ap items w.answers-is ∙ sym (append-nil c.loop-line.answers.items) ∙ ap (λ x. c.loop-line.answers.items ++ x) w.in_default.ensures
    ] in
    record {
      sound = c.in_ok-answer.ensures.sound;
      place = omega (arith, i.place);
      goes = λ start shows.
          let P : List Answer → Type 0 = λ x. RunSoFar size (bench_with start) (take (c.loop-line.line-index + 1) c.args.lines.now) x c.run_line.new.live in
          subst P (sym kept)
          (goes_more size (bench_with start) c.args.lines.now c.loop-line.line-index c.loop-line.answers.items c.loop-line.live c.run_line.new.live c.line-item.result c.in_ok-answer.answer
          c.loop-line-test.true c.line-item.is (i.goes start shows) c.in_ok-answer.ensures.stepped);
    }

pub returns-clause-ran : goal.returns-clause-ran
returns-clause-ran g c = λ start shows.
    let P : List Line → Type 0 = λ xs. RunSoFar c.args.setting.now.shape.now (bench_with start) xs c.loop-line.answers.items c.loop-line.live in
    subst P (take_all c.loop-line.line-index c.args.lines.now (omega (arith, c.loop-line-test.false))) (c.loop-line.invariant.goes start shows)
