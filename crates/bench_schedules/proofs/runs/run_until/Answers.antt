use Rattle.bench_schedules.proofs.Lines.{ran_like}
use Rattle.bench_schedules.proofs.runs.run_until.Goals as goal

pub returns : goal.returns
returns g c = record {
  ran = (
      let start = c.args.payloads.now in
      let went = c.in-Ok.ensures.went start c.in_ok-live.ensures.shows in
      ran_like c.args.setting.now.shape.now start c.args.lines.now c.args.own.now c.in-Ok.differs c.run_lines.new.live went c.in_ok-end_run.ensures.well);
}
