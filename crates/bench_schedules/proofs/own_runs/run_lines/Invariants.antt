use Rattle.std.proofs.Common.{◌≡◌, ℕ, List, take}
use Rattle.bench_report.specs.{Lives.{IsSound, Shows}, Bench.bench_with}
use Rattle.bench_schedules.specs.RunSoFar.{RunSoFar}
use Rattle.bench_schedules.proofs.own_runs.run_lines.Given as goal

abbrev pub invariant-loop-line : goal.invariant-loop-line
invariant-loop-line g l = record {
  sound : IsSound l.live;
  place : l.place ≡ l.line-index;
  goes : (start : List (List ℕ)) → Shows l.setting.shape.now (bench_with start) l.initial.live
      → RunSoFar l.setting.shape.now (bench_with start) (take l.line-index l.lines) l.answers.items l.live;
}
