use Rattle.std.proofs.Common.{map, take, Some}
use Rattle.bench_report.specs.Bench.{Bench}
use Rattle.simdisk.specs.declared.fill.Fill.{Fill}
use Rattle.bench_sweep.specs.{Reports.{Judged, IsLeftBy}, Runs.RunsAt, Swept.cell}
use Rattle.bench_sweep.proofs.judging.judge_each_fill.Given as goal

-- the runs of the fills so far are judged
abbrev pub invariant-loop-fill : goal.invariant-loop-fill
invariant-loop-fill g l =
    (b : Bench) → RunsAt l.runner.setting.shape.now b l.site
    → Judged (IsLeftBy l.runner.setting.shape.now b l.site.off.disk) l.made (map (λ (fill : Fill). cell l.point.caller l.point.number (Some fill)) (take l.fill-index l.fill-items))
