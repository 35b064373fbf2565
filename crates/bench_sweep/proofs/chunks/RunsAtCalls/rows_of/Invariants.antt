use Rattle.std.proofs.Common.{◌≡◌, ◌≤◌, ◌-◌, length}
use Rattle.bench_report.specs.{Bench.Bench, Happens.unpowered}
use Rattle.crew.specs.Handed.{AreRows}
use Rattle.bench_sweep.specs.{Reports.IsOfCall, Along.CameTold, Runs.RunsAt}
use Rattle.bench_sweep.proofs.chunks.RunsAtCalls.rows_of.Given as goal

-- the moment is one of the lines' run, and the rows of the calls so far are made
abbrev pub invariant-loop-done : goal.invariant-loop-done
invariant-loop-done g l = record {
  few : l.moment.count ≤ l.self.count;
  came : (b : Bench) → RunsAt l.self.runner.now.setting.shape.now b l.self.site.now → CameTold l.self.runner.now.setting.shape.now (unpowered b) l.self.runner.now.lines.now l.self.site.now l.moment;
  many : length l.rows.items ≡ l.done - l.from;
  are : AreRows (IsOfCall l.self.runner.now.setting.shape.now l.self.runner.now.bench l.self.caller l.self.before l.self.runner.now.lines.now l.self.site.now) l.from l.rows.items;
}
