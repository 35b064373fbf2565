use Rattle.std.proofs.Common.{◌≤◌}
use Rattle.bench_report.specs.Bench.{Bench}
use Rattle.bench_sweep.specs.Along.{CameTold}
use Rattle.bench_sweep.proofs.chunks.marks_of.Given as goal

-- the moment is one of the lines' run, after the first i of them at most
abbrev pub invariant-loop-i : goal.invariant-loop-i
invariant-loop-i g l = record {
  few : l.moment.count ≤ l.i;
  sits : (b : Bench) × CameTold l.runner.setting.shape.now b l.runner.lines.now l.site l.moment;
}
