use Rattle.std.proofs.Common.{take}
use Rattle.bench_report.specs.Lives.{IsSound}
use Rattle.sbigdb.specs.Strikes.{RanTo}
use Rattle.sbigdb.proofs.strikes.run_lines.Given as goal

abbrev pub invariant-loop-line : goal.invariant-loop-line
invariant-loop-line g l = record {
  sound : IsSound l.live;
  ran : RanTo l.setting.shape.now (take l.line-index l.lines) l.fn.live l.live;
}
