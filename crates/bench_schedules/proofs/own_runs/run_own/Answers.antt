use Rattle.bench_schedules.proofs.Lines.{ran_own}
use Rattle.bench_schedules.proofs.own_runs.run_own.Goals as goal

pub returns-clause-ran : goal.returns-clause-ran
returns-clause-ran g c =
    let start = c.args.payloads.now in
    let ran = c.in-Ok.ensures.ran start c.in_ok-live.ensures.shows in
    (ran_own c.args.setting.now.shape.now start c.args.lines.now c.in-Ok.answers.items c.run_lines.new.live ran c.in_ok-end_run.ensures.well).0

pub returns-clause-count : goal.returns-clause-count
returns-clause-count g c =
    let start = c.args.payloads.now in
    let ran = c.in-Ok.ensures.ran start c.in_ok-live.ensures.shows in
    (ran_own c.args.setting.now.shape.now start c.args.lines.now c.in-Ok.answers.items c.run_lines.new.live ran c.in_ok-end_run.ensures.well).1
