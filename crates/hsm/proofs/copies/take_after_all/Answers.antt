use Rattle.std.proofs.Common.{◌≡◌, ℕ, ◌+◌, ◌<◌, ◌≤◌, ◌∙◌, refl, sym, subst, ap, arith}
use Rattle.tallies.specs.Seats.{numbers_from}
use Rattle.hsm.specs.{Words.HartSeatView, Views.state_in, Copies.{IsShown, IsAtRest, IsSettled}}
use Rattle.hsm.proofs.{Copying.{so_far_first, made_at, made_last}, copies.take_after_all.Goals.After-unwrap-hart}
use Rattle.hsm.proofs.copies.take_after_all.Goals as goal

pub take_after-own-requires-clause-shown : goal.take_after-own-requires-clause-shown
take_after-own-requires-clause-shown c =
    subst (λ (d : HartSeatView). IsShown c.args.table.now.table.shared.key.harts d) (sym c.loop-number.invariant.same) c.requires.shown

pub standing_of-last-requires-clause-shown : goal.standing_of-last-requires-clause-shown
standing_of-last-requires-clause-shown c =
    subst (λ (d : HartSeatView). IsShown c.args.table.now.table.shared.key.harts d) (sym c.loop-number.invariant.same) c.requires.shown

pub loop-number-init : goal.loop-number-init
loop-number-init c = record { seat = c.requires.seat; same = refl; own = c.requires.own; made = c.requires.made }

-- the hart of that number is one of the shape
in_shape : (c : After-unwrap-hart) → (c.unwrap-hart.result ≡ c.loop-number.number) × (c.loop-number.number < c.args.shape.now.harts)
in_shape c = rw c.unwrap-hart.ensures at c.hart.ensures.some

pub take_after-own-requires-clause-seat : goal.take_after-own-requires-clause-seat
take_after-own-requires-clause-seat c = c.loop-number.invariant.seat

pub take_after-own-requires-clause-same : goal.take_after-own-requires-clause-same
take_after-own-requires-clause-same c = c.requires.same ∙ sym c.requires.harts

pub take_after-own-requires-clause-own : goal.take_after-own-requires-clause-own
take_after-own-requires-clause-own c = c.loop-number.invariant.own

pub take_after-own-requires-clause-harts : goal.take_after-own-requires-clause-harts
take_after-own-requires-clause-harts c =
    let some = in_shape (goal.at.take_after-own-requires-clause-harts c).After-unwrap-hart in (
      subst (λ (n : ℕ). c.args.first < n) (sym c.requires.harts) c.requires.first.0,
      subst (λ (n : ℕ). c.unwrap-hart.result < n) (sym c.requires.harts) (subst (λ (k : ℕ). k < c.args.shape.now.harts) (sym some.0) some.1),
    )

pub take_after-own-requires-clause-made : goal.take_after-own-requires-clause-made
take_after-own-requires-clause-made c =
    let some = in_shape (goal.at.take_after-own-requires-clause-made c).After-unwrap-hart in
    made_at c.args.shape.now.harts c.args.table.now.table.shared.key.harts c.args.first c.loop-number.number c.unwrap-hart.result c.args.seat.now.me.0 c.loop-number.seat.me.0 c.loop-number.own.me.0
    (sym c.requires.harts) (sym some.0) (sym c.loop-number.invariant.same) c.loop-number.invariant.made

pub loop-number-preserved : goal.loop-number-preserved
loop-number-preserved c =
    let some = in_shape (goal.at.loop-number-preserved c).After-unwrap-hart in
    let taken = c.take_after-own.ensures in
    let same = c.loop-number.invariant.same in
    record {
      seat = taken.seat;
      same = taken.stays ∙ same;
      own = taken.own;
      made = made_at c.args.table.now.table.shared.key.harts c.args.shape.now.harts c.args.first (c.unwrap-hart.result + 1) (c.loop-number.number + 1) c.loop-number.seat.me.0 c.args.seat.now.me.0 c.take_after-own.result.me.0
          c.requires.harts (ap (λ (k : ℕ). k + 1) some.0) same taken.made;
    }

pub standing_of-last-requires-clause-seat : goal.standing_of-last-requires-clause-seat
standing_of-last-requires-clause-seat c = c.loop-number.invariant.seat

pub standing_of-last-requires-clause-hart : goal.standing_of-last-requires-clause-hart
standing_of-last-requires-clause-hart c = subst (λ (n : ℕ). c.args.first < n) (sym c.requires.harts) c.requires.first.0

pub settle-requires-clause-seat : goal.settle-requires-clause-seat
settle-requires-clause-seat c = c.loop-number.invariant.own

pub settle-requires-clause-rests : goal.settle-requires-clause-rests
settle-requires-clause-rests c = subst (λ (n : ℕ). IsAtRest n c.loop-number.own.me.0) (sym c.requires.same) c.loop-number.invariant.made.rests

pub settle-requires-clause-hart : goal.settle-requires-clause-hart
settle-requires-clause-hart c =
    let first = c.args.first in (
      subst (λ (n : ℕ). first < n) (sym c.requires.same) c.requires.first.0,
      c.loop-number.invariant.made.states first c.requires.first.0 ∙ so_far_first first (state_in c.args.seat.now.me.0) c.loop-number.number first refl,
    )

pub settle-requires-clause-settled : goal.settle-requires-clause-settled
settle-requires-clause-settled c =
    subst IsSettled (sym (c.standing_of-last.ensures.standing ∙ ap (λ (d : HartSeatView). state_in d c.args.first) c.loop-number.invariant.same)) c.requires.first.1

pub returns-clause-seat : goal.returns-clause-seat
returns-clause-seat c = c.standing_of-last.ensures.seat

pub returns-clause-stays : goal.returns-clause-stays
returns-clause-stays c = c.standing_of-last.ensures.same ∙ c.loop-number.invariant.same

pub returns-clause-own : goal.returns-clause-own
returns-clause-own c = c.settle.ensures.seat

pub returns-clause-all : goal.returns-clause-all
returns-clause-all c = c.settle.ensures.becomes.numbered ∙ (c.loop-number.invariant.made.numbered ∙ ap (λ (n : ℕ). numbers_from 0 n) (sym c.requires.same))

pub returns-clause-rests : goal.returns-clause-rests
returns-clause-rests c = subst (λ (n : ℕ). IsAtRest n c.settle.result.me.0) c.requires.same c.settle.ensures.becomes.rests

pub returns-clause-states : goal.returns-clause-states
returns-clause-states c =
    let harts = c.args.shape.now.harts in
    let all : harts ≤ c.loop-number.number = omega (arith, c.loop-number-test.false, c.from-number-end.ensures, c.harts.ensures.value) in
    made_last harts c.args.made.now.table.shared.key.harts c.args.first c.loop-number.number _ c.args.seat.now.me.0 c.loop-number.own.me.0 c.settle.result.me.0
    c.requires.same all (c.standing_of-last.ensures.standing ∙ ap (λ (d : HartSeatView). state_in d c.args.first) c.loop-number.invariant.same) c.loop-number.invariant.made c.settle.ensures.becomes
