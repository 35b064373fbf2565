use Rattle.std.{proofs.Common.{◌≡◌, ◌-◌, ℕ, List, take}, specs.List.AllZip}
use Rattle.bench_report.specs.{Bench.Bench, Happens.unpowered}
use Rattle.bench_sweep.{specs.{Points.MadeCalls, Made.IsRunOf, Reports.Reports, Runs.RunsAt, Swept.all_points}, proofs.Written.total}
use Rattle.crew.specs.Parts.{window}
use Rattle.bench_sweep.proofs.sweeps.sweep_all_callers.Given as goal

-- the runs of the callers so far are written
abbrev pub invariant-loop-caller : goal.invariant-loop-caller
invariant-loop-caller g l =
    (b : Bench) → RunsAt l.runner.setting.shape.now b l.site
    → (counts : List ℕ) × AllZip (MadeCalls l.site.off.disk l.end.off.disk) (take l.caller-index l.caller-items) counts
    × (l.within.from ≡ l.initial.within.from - total counts) × (l.within.to ≡ l.initial.within.to - total counts)
    × Reports g.W.Write.contents l.runner.bench (IsRunOf l.runner.setting.shape.now l.runner.bench l.site.off.disk (unpowered b) l.runner.lines.now) l.fn.report l.report
    (window l.initial.within.from l.initial.within.to (all_points (take l.caller-index l.caller-items) counts))
