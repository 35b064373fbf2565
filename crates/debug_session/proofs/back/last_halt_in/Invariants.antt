use Rattle.std.{proofs.Common.{◌≡◌, ◌<◌}, specs.Prelude.{IfSome, replicate}}
use Rattle.board_model.specs.Shapes.{Size}
use Rattle.bench_report.specs.{Bench.Bench, Lives.{IsSound, Shows}}
use Rattle.debug_session.specs.{Backs.FoundIn, Firsts.one_turn}
use Rattle.debug_session.proofs.back.last_halt_in.Given as goal

abbrev pub invariant-loop-k : goal.invariant-loop-k
invariant-loop-k g l = record {
  within : IfSome l.found (λ f. (f.1.hart ≡ l.hart) × (f.0 < l.turns));
  found : (size : Size) (b : Bench) → Shows size b l.fn.bench → (cur : Bench)
      × FoundIn size l.stops l.found (replicate l.k (one_turn l.hart)) b cur × Shows size cur l.bench;
  sound : IsSound l.bench;
}
