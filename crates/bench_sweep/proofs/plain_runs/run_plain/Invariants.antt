use Rattle.std.proofs.Common.{◌≤◌, ◌-◌, length, take}
use Rattle.bench_report.specs.{Bench.Bench, Happens.unpowered}
use Rattle.bench_sweep.{specs.{Runs.{RunsAt, Sits}, Took.RunTook}, proofs.Made.Went}
use Rattle.bench_sweep.proofs.plain_runs.run_plain.Given as goal

-- the lines so far were run
abbrev pub invariant-loop-from : goal.invariant-loop-from
invariant-loop-from g l = record {
  within : l.from ≤ length l.runner.lines.now;
  sits : Sits l.runner.setting.shape.now l.site;
  took : RunTook l.runner.setting.shape.now (take l.from l.runner.lines.now) l.begin.off.disk l.site.off.disk;
  lives : (b : Bench) → RunsAt l.runner.setting.shape.now b l.begin → Went l.runner.setting.shape.now (unpowered b) l.runner.lines.now l.from l.site;
}

abbrev pub decreases-loop-from : goal.decreases-loop-from
decreases-loop-from g l = length l.runner.lines.now - l.from
