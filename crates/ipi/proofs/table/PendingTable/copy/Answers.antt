use Rattle.std.proofs.{Common.{◌≡◌, ◌+◌, ℕ, arith, refl, sym, ap, ◌∙◌, subst}, lemmas.Result.err_from_is_err_and}
use Rattle.tallies.specs.{Notes.numbers, Seats.numbers_from}
use Rattle.ipi.{specs.{Copies.IsMade, Ledger.PendingSeatView}, proofs.Copying.{ends, hart_below, hart_of, made_at, made_none}}
use Rattle.ipi.proofs.table.PendingTable.copy.Goals as goal

pub returns-clause-pairs : goal.returns-clause-pairs
returns-clause-pairs c =
    let harts = c.args.shape.now.harts in
    let old = c.args.seat.now.me.0 in
    let own = c.loop-number.own.me.0 in
    let last : c.loop-number.number ≡ harts = omega (arith, c.from-number-end.ensures, c.harts.ensures.value) in
    ends harts old own c.requires.shows (c.requires.all ∙ ap (λ (n : ℕ). numbers_from 0 n) c.requires.harts) (subst (λ (k : ℕ). IsMade harts k 0 old own) last c.loop-number.invariant.made)

pub returns-in_err-made-clause-stays : goal.returns-in_err-made-clause-stays
returns-in_err-made-clause-stays c = c.requires.seat

pub returns-in_err-made-clause-same : goal.returns-in_err-made-clause-same
returns-in_err-made-clause-same c = refl

pub returns-in_err-made-clause-seat : goal.returns-in_err-made-clause-seat
returns-in_err-made-clause-seat c = rw (err_from_is_err_and c.from_residual.result c.from_residual.ensures.1).1 tt

pub returns-in_err-made-clause-harts : goal.returns-in_err-made-clause-harts
returns-in_err-made-clause-harts c = rw (err_from_is_err_and c.from_residual.result c.from_residual.ensures.1).1 tt

pub returns-in_err-made-clause-all : goal.returns-in_err-made-clause-all
returns-in_err-made-clause-all c = rw (err_from_is_err_and c.from_residual.result c.from_residual.ensures.1).1 tt

pub returns-in_err-made-clause-pairs : goal.returns-in_err-made-clause-pairs
returns-in_err-made-clause-pairs c = rw (err_from_is_err_and c.from_residual.result c.from_residual.ensures.1).1 tt

pub returns-in_err-made-clause-memory : goal.returns-in_err-made-clause-memory
returns-in_err-made-clause-memory c =
    let p = (err_from_is_err_and c.from_residual.result c.from_residual.ensures.1) in
    rw (p.1, p.2) c.in_err-made.ensures.memory

pub loop-number-init : goal.loop-number-init
loop-number-init c = record {
  stays = c.requires.seat;
  same = refl;
  own = c.in_ok-made.ensures.seat;
  made = made_none c.args.shape.now.harts c.in_ok-made.made.table.shared.key c.args.seat.now.me.0 c.in_ok-made.own.me.0 c.in_ok-made.ensures.all c.in_ok-made.ensures.harts c.in_ok-made.ensures.shows;
}

pub take_row-own-requires-clause-seat : goal.take_row-own-requires-clause-seat
take_row-own-requires-clause-seat c = c.loop-number.invariant.own

pub take_row-own-requires-clause-harts : goal.take_row-own-requires-clause-harts
take_row-own-requires-clause-harts c = c.in_ok-made.ensures.harts

pub take_row-own-requires-clause-other : goal.take_row-own-requires-clause-other
take_row-own-requires-clause-other c = c.loop-number.invariant.stays

pub take_row-own-requires-clause-all : goal.take_row-own-requires-clause-all
take_row-own-requires-clause-all c = ap (λ (d : PendingSeatView). numbers d.harts) c.loop-number.invariant.same ∙ c.requires.all

pub take_row-own-requires-clause-same : goal.take_row-own-requires-clause-same
take_row-own-requires-clause-same c = c.requires.harts

pub take_row-own-requires-clause-target : goal.take_row-own-requires-clause-target
take_row-own-requires-clause-target c = hart_below c.hart.result c.unwrap-target.result c.loop-number.number c.args.shape.now.harts c.args.shape.now.harts c.unwrap-target.ensures c.hart.ensures.some refl

pub take_row-own-requires-clause-made : goal.take_row-own-requires-clause-made
take_row-own-requires-clause-made c =
    made_at c.args.shape.now.harts c.loop-number.number c.unwrap-target.result c.args.seat.now.me.0 c.loop-number.seat.me.0 c.loop-number.own.me.0 (hart_of c.hart.result c.unwrap-target.result c.loop-number.number c.args.shape.now.harts c.unwrap-target.ensures c.hart.ensures.some).0
    c.loop-number.invariant.same c.loop-number.invariant.made

pub loop-number-preserved : goal.loop-number-preserved
loop-number-preserved c =
    let was = c.loop-number.invariant in
    let made = c.take_row-own.ensures in
    let at = (hart_of c.hart.result c.unwrap-target.result c.loop-number.number c.args.shape.now.harts c.unwrap-target.ensures c.hart.ensures.some).0 in
    record {
      stays = made.other;
      same = made.stays ∙ was.same;
      own = made.seat;
      made = made_at c.args.shape.now.harts (c.unwrap-target.result + 1) (c.loop-number.number + 1) c.loop-number.seat.me.0 c.args.seat.now.me.0 c.take_row-own.result.me.0 (ap (λ (k : ℕ). k + 1) (sym at)) (sym was.same) made.made;
    }

pub returns-clause-stays : goal.returns-clause-stays
returns-clause-stays c = c.loop-number.invariant.stays

pub returns-clause-same : goal.returns-clause-same
returns-clause-same c = c.loop-number.invariant.same

pub returns-clause-seat : goal.returns-clause-seat
returns-clause-seat c = c.loop-number.invariant.own

pub returns-clause-harts : goal.returns-clause-harts
returns-clause-harts c = c.in_ok-made.ensures.harts

pub returns-clause-all : goal.returns-clause-all
returns-clause-all c = c.loop-number.invariant.made.numbered ∙ ap (λ (n : ℕ). numbers_from 0 n) (sym c.in_ok-made.ensures.harts)
