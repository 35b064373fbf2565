use Rattle.std.proofs.Common.{◌≡◌, take}
use Rattle.bench_report.specs.Lives.{IsSound}
use Rattle.bench_sweep.specs.Runs.{Begins}
use Rattle.bench_sweep.proofs.begins.run_to_format.Given as goal

abbrev pub invariant-loop-line : goal.invariant-loop-line
invariant-loop-line g l = record {
  begins : Begins l.setting.shape.now l.payloads (take l.line-index l.lines) l.bench;
  count : l.count ≡ l.line-index;
  sound : IsSound l.bench;
}
