use Rattle.bench_report.specs.Happens.{armed_with, unpowered}
use Rattle.bench_sweep.{specs.Points.fault_at, proofs.{Left.unstruck, Made.runs_armed}}
use Rattle.bench_sweep.proofs.shown.count_armed.Goals as goal

pub run_lines-requires-clause-calm : goal.run_lines-requires-clause-calm
run_lines-requires-clause-calm g c κs within =
    let size = c.args.runner.now.setting.shape.now in
    let sits = c.requires.sits in
    let run = c.args.run in
    let b = unpowered sits.0 in
    let calm = c.armed-armed.ensures.runs size b (c.in_ok-from.ensures.runs size sits.0 sits.1) in
    unstruck size (armed_with (fault_at c.args.runner.now.bench run.caller run.call) b) _ calm.agrees calm.calm

pub returns-clause-armed : goal.returns-clause-armed
returns-clause-armed g c = λ b r.
    let size = c.args.runner.now.setting.shape.now in
    let kind = c.args.runner.now.bench in
    let run = c.args.run in
    let calm = c.armed-armed.ensures.runs size (unpowered b) (c.in_ok-from.ensures.runs size b r) in
    let ran = c.in-Ok.ensures.ran (armed_with (fault_at kind run.caller run.call) (unpowered b)) calm in
    (runs_armed size kind run.caller run.call (unpowered b) c.args.runner.now.lines.now c.in-Ok.count _ _ c.in-Ok.ensures.few ran (c.in_ok-check_ended.ensures.ended size ran.bench ran.runs)).0
