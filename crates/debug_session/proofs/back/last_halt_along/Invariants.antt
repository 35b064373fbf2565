use Rattle.std.{proofs.Common.take, specs.Prelude.IfSome}
use Rattle.debug_session.specs.{Pasts.moments, Ats.IsPlace, Backs.FoundOf}
use Rattle.bench_report.specs.{Bench.{Bench, bench_with}, Lives.{IsSound, Shows}}
use Rattle.debug_session.proofs.back.last_halt_along.Given as goal

abbrev pub invariant-loop-number : goal.invariant-loop-number
invariant-loop-number g l = record {
  place : IfSome l.found (λ place. IsPlace place.stop.hart place.line place.turns l.lines);
  found : (cur : Bench) × FoundOf l.setting.shape.now l.stops l.found l.lines (moments (take l.number l.lines)) (bench_with l.timeline.begins) cur
      × Shows l.setting.shape.now cur l.bench;
  sound : IsSound l.bench;
}
