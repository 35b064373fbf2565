use Rattle.std.proofs.{Common.{◌≡◌, [], arith, length}, lemmas.Result.IfOk-from_err}
use Rattle.bench_sweep.{specs.{declared.points.BenchKind.TheVariants.Fails, Points.fault_at}, proofs.{Left.unstruck, Made.runs_with}}
use Rattle.bench_sweep.proofs.Rowed.{judged_none, judged_more, judged_at}
use Rattle.bench_report.specs.Happens.{armed_with, off}
use Rattle.bench_sweep.proofs.judging.run_past_failure.Goals as goal

pub run_lines-requires-clause-calm : goal.run_lines-requires-clause-calm
run_lines-requires-clause-calm g c κs within =
    let size = c.args.runner.now.setting.shape.now in
    let sits = c.requires.sits in
    let calm = c.armed-armed.ensures.runs size sits.0 sits.1 in
    unstruck size (armed_with (fault_at Fails c.args.point.caller c.args.point.call) sits.0) _ calm.agrees calm.calm

pub judge_last-requires-clause-sits : goal.judge_last-requires-clause-sits
judge_last-requires-clause-sits g c κs within =
    let size = c.args.runner.now.setting.shape.now in
    let sits = c.requires.sits in
    let calm = c.armed-armed.ensures.runs size sits.0 sits.1 in
    let ran = c.in-Ok.ensures.ran (armed_with (fault_at Fails c.args.point.caller c.args.point.call) sits.0) calm in
    let left = c.in_ok-left.ensures.runs size ran.bench ran.runs in
    (off ran.bench, left.3)

pub returns : goal.returns
returns g c = record {
  judged = (λ b l.
      let size = c.args.runner.now.setting.shape.now in
      let lines = c.args.runner.now.lines.now in
      let calm = c.armed-armed.ensures.runs size b l in
      let ran = c.in-Ok.ensures.ran (armed_with (fault_at Fails c.args.point.caller c.args.point.call) b) calm in
      let left = c.in_ok-left.ensures.runs size ran.bench ran.runs in
      let all : c.in-Ok.count ≡ length lines = omega (arith, c.in-Ok.ensures.few, c.in_ok-left.ensures.whole) in
      let none = c.none-made.ensures in
      judged_at Fails c.args.point.caller c.args.point.number _ _ _
      (λ row caller number is. runs_with size Fails c.args.point b lines c.in-Ok.count _ _ c.in-Ok.ensures.few ran (all, left.0, left.1, left.2) c.in_ok-left.left.off.disk row caller number is)
      (judged_more _ _ _ [] _ (judged_none _ _ none.rows none.runs none.right) (c.in_ok-judge_last.ensures.kept (off ran.bench) left.3)));
}

pub returns-in_err-judge_last : goal.returns-in_err-judge_last
returns-in_err-judge_last g c = record { judged = (IfOk-from_err c.from_residual-in_err-judge_last.result _ c.from_residual-in_err-judge_last.ensures.0) }

pub returns-in_err-left : goal.returns-in_err-left
returns-in_err-left g c = record { judged = (IfOk-from_err c.from_residual.result _ c.from_residual.ensures.0) }
