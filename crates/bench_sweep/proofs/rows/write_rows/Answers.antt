use Rattle.std.{proofs.{Common.{List, ℕ, false, subst, arith}, lemmas.List.take_all}, specs.Io.KnownBytes.Appends}
use Rattle.board_model.proofs.Written.{appended, unwritten}
use Rattle.bench_sweep.{specs.{declared.rows.Row.Row, Swept.rows_text}, proofs.Written.rows_one_more}
use Rattle.bench_sweep.proofs.rows.write_rows.Goals as goal

pub loop-row-init : goal.loop-row-init
loop-row-init g c = unwritten _

pub loop-row-preserved : goal.loop-row-preserved
loop-row-preserved g c =
    let A : List ℕ → Type 0 = λ text. Appends (g.W.Write.contents c.args.out.now) (g.W.Write.contents c.write_row.new.out) text in
    subst A (rows_one_more c.args.rows.now c.loop-row.row-index c.row-item.result c.row-item.result c.loop-row-test.true c.row-item.is)
    (appended _ _ _ _ _ c.loop-row.invariant c.in_ok-write_row.ensures.ok)

pub returns : goal.returns
returns g c = record {
  ok = (
      let A : List Row → Type 0 = λ rows. Appends (g.W.Write.contents c.args.out.now) (g.W.Write.contents c.loop-row.out) (rows_text false rows) in
      subst A (take_all c.loop-row.row-index c.args.rows.now (omega (arith, c.loop-row-test.false))) c.loop-row.invariant);
}
