use Rattle.std.proofs.Common.{is_ok, arith}
use Rattle.crew.{specs.Handed.IsPlaced, proofs.Placing.pushed_each}
use Rattle.crew.proofs.hands.make_some.Goals as goal

pub loop-init : goal.loop-init
loop-init g c = c.requires.made

pub returns-then-size-at : goal.returns-then-size-at
returns-then-size-at g c = c.loop.invariant

pub overflow_add-first : goal.overflow_add-first
overflow_add-first g c = record { fits = omega (arith, c.requires.room, c.if-size-at.false) }

pub row-row-requires : goal.row-row-requires
row-row-requires g c = record { has = c.requires.has c.fetch_add-at.result c.if-size-at.false }

-- one more row, where there was memory to keep it
pub returns-then-is_err : goal.returns-then-is_err
returns-then-is_err g c =
    let is = g.T.Task.is_row c.args.task.now in
    let at = c.fetch_add-at.result in
    pushed_each (IsPlaced is c.args.first c.args.size) (is_ok c.push.result) c.loop.made.items c.push.new.self.items (at, c.row-row.result) c.push.ensures.items c.loop.invariant
    (c.if-size-at.false, c.row-row.ensures.row)

pub loop-preserved : goal.loop-preserved
loop-preserved g c =
    let is = g.T.Task.is_row c.args.task.now in
    let at = c.fetch_add-at.result in
    pushed_each (IsPlaced is c.args.first c.args.size) (is_ok c.push.result) c.loop.made.items c.push.new.self.items (at, c.row-row.result) c.push.ensures.items c.loop.invariant
    (c.if-size-at.false, c.row-row.ensures.row)

pub loop-smaller : goal.loop-smaller
loop-smaller g c = omega (arith, c.loop-test.true)

pub returns : goal.returns
returns g c = c.loop.invariant
