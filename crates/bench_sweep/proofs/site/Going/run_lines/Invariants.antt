use Rattle.std.proofs.Common.{◌≡◌, take}
use Rattle.bench_report.specs.{Agree.IsUnstruck, Bench.Bench}
use Rattle.bench_sweep.{specs.{Runs.RunsCalm, Took.{RunTook, own_disk}}, proofs.Ran.Runs_to}
use Rattle.bench_sweep.proofs.site.Going.run_lines.Given as goal

abbrev pub invariant-loop-line : goal.invariant-loop-line
invariant-loop-line g l = record {
  calm : IsUnstruck l.self.bench.power;
  ran : (b : Bench) → RunsCalm l.setting.shape.now b l.fn.self → Runs_to l.setting.shape.now b (take l.line-index l.lines) l.fn.self l.self;
  took : (b : Bench) → RunsCalm l.setting.shape.now b l.fn.self → RunTook l.setting.shape.now (take l.line-index l.lines) (own_disk l.fn.self) (own_disk l.self);
  count : l.count ≡ l.line-index;
}
