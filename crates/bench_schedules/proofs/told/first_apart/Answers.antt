use Rattle.std.proofs.Common.{arith}
use Rattle.bench_schedules.proofs.Aparts.{all_alike, first_at, no_pair, one_more}
use Rattle.bench_schedules.proofs.told.first_apart.Goals as goal

pub loop-place-init : goal.loop-place-init
loop-place-init c = λ k less. absurd (omega (arith, less))

pub loop-place-preserved : goal.loop-place-preserved
loop-place-preserved c =
    let same = no_pair c.in_ok-pair.field-0 _ _ c.in_default.not-Some c.in_ok-pair.ensures in
    one_more c.args.own.now c.args.other.now c.loop-place.place c.told_at.result c.told_at-in-loop-place.result c.loop-place.invariant c.told_at.ensures c.told_at-in-loop-place.ensures same

pub returns-in-Some : goal.returns-in-Some
returns-in-Some c =
    first_at c.args.own.now c.args.other.now c.loop-place.place c.told_at.result c.told_at-in-loop-place.result c.in-Some.pair c.loop-place-test.true c.loop-place.invariant
    c.told_at.ensures c.told_at-in-loop-place.ensures (rw c.in-Some.is at c.in_ok-pair.ensures)

pub returns : goal.returns
returns c =
    let own = c.args.own.now in
    let other = c.args.other.now in
    all_alike own.found other.found own.line other.line (λ k less. c.loop-place.invariant k (omega (arith, less, c.loop-place-test.false)))
