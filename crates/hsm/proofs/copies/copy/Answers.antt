use Rattle.std.{specs.Option.IfSome, proofs.Common.{ℕ, ◌<◌, sym, subst, ◌∙◌, ap}}
use Rattle.tallies.specs.Seats.{numbers_from}
use Rattle.hsm.specs.{Words.HartSeatView, declared.view.Stage.TheVariants.Quiet, Rule.stands, Seating.harts_in, Views.state_in}
use Rattle.hsm.{specs.Copies.{IsShown, IsAtRest, IsSettled, stage_by}, proofs.Copying.{opens, shown_of, copied_states}}
use Rattle.hsm.proofs.copies.copy.Goals as goal

pub settled_hart-first-requires-clause-shown : goal.settled_hart-first-requires-clause-shown
settled_hart-first-requires-clause-shown c = shown_of c.args.shape.now.harts c.args.table.now.table.shared.key.harts c.args.seat.now.me.0 c.requires.harts c.requires.shows

pub take_after_all-own-requires-clause-shown : goal.take_after_all-own-requires-clause-shown
take_after_all-own-requires-clause-shown c =
    subst (λ (d : HartSeatView). IsShown c.args.table.now.table.shared.key.harts d) (sym c.settled_hart-first.ensures.same)
    (shown_of c.args.shape.now.harts c.args.table.now.table.shared.key.harts c.args.seat.now.me.0 c.requires.harts c.requires.shows)

pub take_after_all-own-requires-clause-made : goal.take_after_all-own-requires-clause-made
take_after_all-own-requires-clause-made c =
    let made = c.in_ok-made.ensures in
    opens c.args.shape.now.harts c.settled_hart-first.result c.settled_hart-first.new.seat.me.0 c.in_ok-made.own.me.0 (made.all ∙ ap (λ (n : ℕ). numbers_from 0 n) made.harts) made.shows made.stands

pub quiet_as-own-requires-clause-shown : goal.quiet_as-own-requires-clause-shown
quiet_as-own-requires-clause-shown c =
    subst (λ (d : HartSeatView). IsShown c.args.table.now.table.shared.key.harts d) (sym (c.take_after_all-own.ensures.stays ∙ c.settled_hart-first.ensures.same))
    (shown_of c.args.shape.now.harts c.args.table.now.table.shared.key.harts c.args.seat.now.me.0 c.requires.harts c.requires.shows)

pub returns-clause-stands : goal.returns-clause-stands
returns-clause-stands c = λ h lt.
    subst (λ (d : HartSeatView). stands h (stage_by c.args.lone h (state_in d h)) (harts_in c.quiet_as-own.result)) (c.take_after_all-own.ensures.stays ∙ c.settled_hart-first.ensures.same)
    (c.quiet_as-own.ensures.stands h (subst (λ (n : ℕ). h < n) (sym c.requires.harts) lt))

pub returns-clause-states : goal.returns-clause-states
returns-clause-states c =
    let new = c.quiet_as-own.result.me.0 in
    copied_states c.args.shape.now.harts c.args.seat.now.me.0 new c.requires.shows (subst (λ (n : ℕ). IsShown n new) c.requires.harts c.quiet_as-own.ensures.shown)
    (λ k lt. c.quiet_as-own.ensures.states k (subst (λ (n : ℕ). k < n) (sym c.requires.harts) lt) ∙ ap (λ (d : HartSeatView). state_in d k) (c.take_after_all-own.ensures.stays ∙ c.settled_hart-first.ensures.same))

pub settled_hart-first-requires-clause-seat : goal.settled_hart-first-requires-clause-seat
settled_hart-first-requires-clause-seat c = c.requires.seat

pub settled_hart-first-requires-clause-harts : goal.settled_hart-first-requires-clause-harts
settled_hart-first-requires-clause-harts c = c.requires.harts

pub new-requires : goal.new-requires
new-requires c = subst (λ (n : ℕ). c.settled_hart-first.result < n) c.requires.harts c.settled_hart-first.ensures.hart

pub returns-in_err-made-clause-stays : goal.returns-in_err-made-clause-stays
returns-in_err-made-clause-stays c = c.settled_hart-first.ensures.seat

pub returns-in_err-made-clause-same : goal.returns-in_err-made-clause-same
returns-in_err-made-clause-same c = c.settled_hart-first.ensures.same

pub take_after_all-own-requires-clause-seat : goal.take_after_all-own-requires-clause-seat
take_after_all-own-requires-clause-seat c = c.settled_hart-first.ensures.seat

pub take_after_all-own-requires-clause-harts : goal.take_after_all-own-requires-clause-harts
take_after_all-own-requires-clause-harts c = c.requires.harts

pub take_after_all-own-requires-clause-same : goal.take_after_all-own-requires-clause-same
take_after_all-own-requires-clause-same c = c.in_ok-made.ensures.harts

pub take_after_all-own-requires-clause-own : goal.take_after_all-own-requires-clause-own
take_after_all-own-requires-clause-own c = c.in_ok-made.ensures.seat

pub take_after_all-own-requires-clause-first : goal.take_after_all-own-requires-clause-first
take_after_all-own-requires-clause-first c =
    let first = c.settled_hart-first.result in (
      subst (λ (n : ℕ). first < n) c.requires.harts c.settled_hart-first.ensures.hart,
      subst (λ (d : HartSeatView). IsSettled (state_in d first)) (sym c.settled_hart-first.ensures.same) c.settled_hart-first.ensures.settled,
    )

pub quiet_as-own-requires-clause-seat : goal.quiet_as-own-requires-clause-seat
quiet_as-own-requires-clause-seat c = c.take_after_all-own.ensures.seat

pub quiet_as-own-requires-clause-quiet : goal.quiet_as-own-requires-clause-quiet
quiet_as-own-requires-clause-quiet c =
    subst (λ (d : HartSeatView). IfSome c.args.lone (λ h. (h < c.args.table.now.table.shared.key.harts) × stands h Quiet d.harts)) (sym (c.take_after_all-own.ensures.stays ∙ c.settled_hart-first.ensures.same))
    (subst (λ (n : ℕ). IfSome c.args.lone (λ h. (h < n) × stands h Quiet c.args.seat.now.me.0.harts)) (sym c.requires.harts) c.requires.quiet)

pub quiet_as-own-requires-clause-own : goal.quiet_as-own-requires-clause-own
quiet_as-own-requires-clause-own c = c.take_after_all-own.ensures.own

pub quiet_as-own-requires-clause-all : goal.quiet_as-own-requires-clause-all
quiet_as-own-requires-clause-all c = c.take_after_all-own.ensures.all

pub quiet_as-own-requires-clause-same : goal.quiet_as-own-requires-clause-same
quiet_as-own-requires-clause-same c = c.in_ok-made.ensures.harts ∙ sym c.requires.harts

pub quiet_as-own-requires-clause-rests : goal.quiet_as-own-requires-clause-rests
quiet_as-own-requires-clause-rests c = subst (λ (n : ℕ). IsAtRest n c.take_after_all-own.result.me.0) (sym c.requires.harts) c.take_after_all-own.ensures.rests

pub quiet_as-own-requires-clause-states : goal.quiet_as-own-requires-clause-states
quiet_as-own-requires-clause-states c = λ k lt.
    c.take_after_all-own.ensures.states k (subst (λ (n : ℕ). k < n) c.requires.harts lt) ∙ ap (λ (d : HartSeatView). state_in d k) (sym c.take_after_all-own.ensures.stays)

pub returns-clause-stays : goal.returns-clause-stays
returns-clause-stays c = c.quiet_as-own.ensures.seat

pub returns-clause-same : goal.returns-clause-same
returns-clause-same c = c.quiet_as-own.ensures.stays ∙ (c.take_after_all-own.ensures.stays ∙ c.settled_hart-first.ensures.same)

pub returns-clause-seat : goal.returns-clause-seat
returns-clause-seat c = c.quiet_as-own.ensures.own

pub returns-clause-harts : goal.returns-clause-harts
returns-clause-harts c = c.in_ok-made.ensures.harts

pub returns-clause-all : goal.returns-clause-all
returns-clause-all c = c.quiet_as-own.ensures.all

pub returns-clause-memory : goal.returns-clause-memory
returns-clause-memory c = tt
