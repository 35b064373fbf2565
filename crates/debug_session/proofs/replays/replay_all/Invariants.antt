use Rattle.std.proofs.Common.{◌≡◌, ℕ, List, take}
use Rattle.bench_report.specs.{Agree.fills_after, Bench.{Bench, bench_with}, Lives.{IsSound, Shows}}
use Rattle.debug_session.proofs.Timelines.{Left}
use Rattle.debug_session.proofs.replays.replay_all.Given as goal

abbrev pub invariant-loop-line : goal.invariant-loop-line
invariant-loop-line g l = record {
  left : (begins : List (List ℕ)) → Shows l.setting.shape.now (bench_with begins) l.fn.bench
      → (b : Bench) × Left l.setting.shape.now begins (take l.line-index l.lines) l.joins l.bench b;
  sound : IsSound l.bench;
  fill : l.bench.fill ≡ fills_after (take l.line-index l.lines) l.fn.bench.fill;
}
