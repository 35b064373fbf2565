use Rattle.std.proofs.Common.{◌≡◌, ◌≤◌, ◌+◌, ◌-◌, length, take}
use Rattle.bench_report.specs.{Bench.Bench, Happens.unpowered}
use Rattle.bench_sweep.specs.{Points.calls_of, Made.IsRunOf, Reports.Reports, Runs.{RunsAt, Sits}, Swept.points_from, Took.RunTook}
use Rattle.bench_sweep.proofs.Made.{Went}
use Rattle.crew.specs.Parts.{window}
use Rattle.bench_sweep.proofs.sweeps.sweep_caller.Given as goal

-- the runs of the points so far are written
abbrev pub invariant-loop-from : goal.invariant-loop-from
invariant-loop-from g l = record {
  within : l.from ≤ length l.runner.lines.now;
  sits : Sits l.runner.setting.shape.now l.site;
  took : RunTook l.runner.setting.shape.now (take l.from l.runner.lines.now) l.begin.off.disk l.site.off.disk;
  counts : calls_of l.caller l.site.off.disk ≡ calls_of l.caller l.begin.off.disk + l.made;
  lives : (b : Bench) → RunsAt l.runner.setting.shape.now b l.begin → Went l.runner.setting.shape.now (unpowered b) l.runner.lines.now l.from l.site;
  wrote : (b : Bench) → RunsAt l.runner.setting.shape.now b l.begin
      → Reports g.W.Write.contents l.runner.bench (IsRunOf l.runner.setting.shape.now l.runner.bench l.begin.off.disk (unpowered b) l.runner.lines.now) l.fn.report l.report (window l.fn.within.from l.fn.within.to (points_from l.caller 1 l.made));
  from : l.left.from ≡ l.fn.within.from - l.made;
  to : l.left.to ≡ l.fn.within.to - l.made;
}

abbrev pub decreases-loop-from : goal.decreases-loop-from
decreases-loop-from g l = length l.runner.lines.now - l.from
