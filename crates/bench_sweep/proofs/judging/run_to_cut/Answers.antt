use Rattle.std.proofs.lemmas.Result.{IfOk-weaker}
use Rattle.bench_sweep.{specs.{declared.points.BenchKind.TheVariants.Cuts, Points.fault_at}, proofs.{Left.unstruck, Made.runs_with}}
use Rattle.bench_sweep.proofs.Rowed.{judged_at}
use Rattle.bench_report.specs.Happens.{armed_with, off}
use Rattle.bench_sweep.proofs.judging.run_to_cut.Goals as goal

pub run_lines-requires-clause-calm : goal.run_lines-requires-clause-calm
run_lines-requires-clause-calm g c κs within =
    let size = c.args.runner.now.setting.shape.now in
    let sits = c.requires.sits in
    let calm = c.armed-armed.ensures.runs size sits.0 sits.1 in
    unstruck size (armed_with (fault_at Cuts c.args.point.caller c.args.point.call) sits.0) _ calm.agrees calm.calm

pub judge_each_fill-requires-clause-sits : goal.judge_each_fill-requires-clause-sits
judge_each_fill-requires-clause-sits g c κs within =
    let size = c.args.runner.now.setting.shape.now in
    let sits = c.requires.sits in
    let calm = c.armed-armed.ensures.runs size sits.0 sits.1 in
    let ran = c.in-Ok.ensures.ran (armed_with (fault_at Cuts c.args.point.caller c.args.point.call) sits.0) calm in
    (off ran.bench, (c.in_ok-left.ensures.runs size ran.bench ran.runs).2)

pub returns : goal.returns
returns g c = record {
  judged = (IfOk-weaker c.judge_each_fill.result _ _ (λ rows did b l.
      (let size = c.args.runner.now.setting.shape.now in
      let lines = c.args.runner.now.lines.now in
      let calm = c.armed-armed.ensures.runs size b l in
      let ran = c.in-Ok.ensures.ran (armed_with (fault_at Cuts c.args.point.caller c.args.point.call) b) calm in
      let left = c.in_ok-left.ensures.runs size ran.bench ran.runs in
      judged_at Cuts c.args.point.caller c.args.point.number _ _ rows
      (λ row caller number is. runs_with size Cuts c.args.point b lines c.in-Ok._count _ _ c.in-Ok.ensures.few ran (left.0, left.1) c.in_ok-left.left.off.disk row caller number is)
      (did (off ran.bench) left.2)))
      c.judge_each_fill.ensures.judged);
}
