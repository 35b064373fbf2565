use Rattle.std.proofs.Common.{arith}
use Rattle.bench_sweep.proofs.AlikeLines.{goes_on_end, goes_on, parts, one_ends, other_ends}
use Rattle.bench_sweep.proofs.apart.ends_alike.Goals.{then-one-i-eq10, else-one-i-eq10}
use Rattle.bench_sweep.proofs.apart.ends_alike.Goals as goal

pub loop-i-init : goal.loop-i-init
loop-i-init c = record { all = omega arith; few = omega arith }

pub returns-then-one-i-clause-ends : goal.returns-then-one-i-clause-ends
returns-then-one-i-clause-ends c =
    let one = c.args.one.now in
    let other = c.args.other.now in
    let less = c.loop-i-test.true in
    omega (arith, c.loop-i.invariant.all, parts one other c.loop-i.i (omega (arith, less, c.min-i-end.ensures)) (omega (arith, less, c.min-i-end.ensures)) c.if-one-i.true)

pub returns-then-one-i-clause-few : goal.returns-then-one-i-clause-few
returns-then-one-i-clause-few c = omega (arith, c.loop-i.invariant.few, c.loop-i-test.true, c.min-i-end.ensures)

pub overflow_add-ends : goal.overflow_add-ends
overflow_add-ends c = omega (arith, c.loop-i.invariant.few, c.loop-i-test.true, c.min-i-end.type_inv)

pub loop-i-preserved : goal.loop-i-preserved
loop-i-preserved c =
    let one = c.args.one.now in
    let other = c.args.other.now in
    let i = c.loop-i.i in
    let less = c.loop-i-test.true in
    let so_far = c.loop-i.invariant in
    elim c.if-one-i-eq10.branch [
      | then-one-i-eq10 w ↦ record {
        all = omega (arith, so_far.all, w.ends-is, goes_on_end one other i (omega (arith, less, c.min-i-end.ensures)) (omega (arith, less, c.min-i-end.ensures)) c.if-one-i.false w.if-one-i-eq10.true);
        few = omega (arith, so_far.few, w.ends-is);
      }
      | else-one-i-eq10 w ↦ record {
        all = omega (arith, so_far.all, w.ends-is, goes_on one other i (omega (arith, less, c.min-i-end.ensures)) (omega (arith, less, c.min-i-end.ensures)) c.if-one-i.false w.if-one-i-eq10.false);
        few = omega (arith, so_far.few, w.ends-is);
      }
    ]

pub returns-clause-ends : goal.returns-clause-ends
returns-clause-ends c =
    let one = c.args.one.now in
    let other = c.args.other.now in
    grind (arith, c.loop-i.invariant.all, c.loop-i-test.false, c.min-i-end.ensures, one_ends one other c.loop-i.i, other_ends one other c.loop-i.i)

pub returns-clause-few : goal.returns-clause-few
returns-clause-few c = omega (arith, c.loop-i.invariant.few, c.min-i-end.ensures, c.loop-i.auto.i-end)
