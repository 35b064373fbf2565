use Rattle.std.proofs.Common.{◌≡◌, length}
use Rattle.board_model.specs.Shapes.{Size}
use Rattle.bench_report.specs.{Views.machine_in, Bench.Bench, Agree.OnIs}
use Rattle.bench_sweep.{specs.Runs.Follows, proofs.Turned.GoesFar}
use Rattle.bench_sweep.proofs.harts.turn_many.Given as goal

abbrev pub invariant-loop-left : goal.invariant-loop-left
invariant-loop-left g l = record {
  harts : length (machine_in l.board).harts ≡ length (machine_in l.fn.board).harts;
  resumed : l.ledger.resumed ≡ l.fn.ledger.resumed;
  goes : (size : Size) (b : Bench) → OnIs size b l.fn.board → Follows size b l.fn.ledger → GoesFar size l.hart l.count b l.left l.word l.board l.ledger;
}

abbrev pub decreases-loop-left : goal.decreases-loop-left
decreases-loop-left g l = l.left
