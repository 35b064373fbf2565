use Rattle.std.proofs.Common.{◌≡◌, ◌-◌, false}
use Rattle.board_model.specs.Shapes.{Size}
use Rattle.bench_report.specs.{Bench.Bench, Rows.{IsOpenRow, IsWithin, RowMoves, is_idle_row, is_off, made_in}, Lives.{IsSound, Shows}}
use Rattle.debug_session.specs.{Lives.{pc_in, stands_in}, Passes.{GoesTo, machine_left}}
use Rattle.debug_session.proofs.to_points.turns_to.Given as goal

abbrev pub invariant-loop-made : goal.invariant-loop-made
invariant-loop-made g l = record {
  reported : (size : Size) (b : Bench) → Shows size b l.fn.bench → (new : Bench) × RowMoves size l.hart l.row b new × Shows size new l.bench
      × GoesTo size l.hart l.points l.row b new × (is_off l.row ≡ false → stands_in l.points (pc_in l.hart (machine_left new.power)) ≡ false);
  goes : IsOpenRow l.row;
  busy : is_idle_row l.row ≡ false;
  made : l.made ≡ made_in l.row;
  within : IsWithin l.most l.row;
  sound : IsSound l.bench;
  fill : l.bench.fill ≡ l.fn.bench.fill;
}

abbrev pub decreases-loop-made : goal.decreases-loop-made
decreases-loop-made g l = l.most - l.made
