use Rattle.std.proofs.Common.{◌≡◌, ◌+◌, ℕ, List, length, take, drop}
use Rattle.bench_schedules.specs.{Orders.other_count, RunSoFar.RunSoFar}
use Rattle.bench_report.specs.{Bench.bench_with, Lives.{IsSound, Shows}}
use Rattle.bench_schedules.proofs.runs.run_lines.Given as goal

abbrev pub invariant-loop-line : goal.invariant-loop-line
invariant-loop-line g l = record {
  sound : IsSound l.live;
  count : l.place + other_count (drop l.line-index l.lines) ≡ length l.own;
  goes : (start : List (List ℕ)) → Shows l.setting.shape.now (bench_with start) l.initial.live
      → RunSoFar l.setting.shape.now (bench_with start) (take l.line-index l.lines) (take l.place l.own) l.live;
}
