use Rattle.std.proofs.{Common.{ℕ, ◌<◌, refl, sym, subst, ◌∙◌, arith}, lemmas.Bool.{eqb-true, eqb-false}}
use Rattle.hsm.{specs.{Views.state_in, Copies.IsAtRest}, proofs.Copying.{so_far_first, so_far_above, passes_first, made_next}}
use Rattle.hsm.proofs.copies.take_after.Goals as goal

pub returns-then-eq-clause-seat : goal.returns-then-eq-clause-seat
returns-then-eq-clause-seat c = c.requires.seat

pub returns-then-eq-clause-stays : goal.returns-then-eq-clause-stays
returns-then-eq-clause-stays c = refl

pub returns-then-eq-clause-own : goal.returns-then-eq-clause-own
returns-then-eq-clause-own c = c.requires.own

pub returns-then-eq-clause-made : goal.returns-then-eq-clause-made
returns-then-eq-clause-made c = passes_first c.args.table.now.table.shared.key.harts c.args.first c.args.hart c.args.seat.now.me.0 c.args.own.me.0 (eqb-true c.args.hart c.args.first (sym c.eq.ensures ∙ c.if-eq.true)) c.requires.made

pub standing_of-standing-requires-clause-seat : goal.standing_of-standing-requires-clause-seat
standing_of-standing-requires-clause-seat c = c.requires.seat

pub standing_of-standing-requires-clause-shown : goal.standing_of-standing-requires-clause-shown
standing_of-standing-requires-clause-shown c = c.requires.shown

pub standing_of-standing-requires-clause-hart : goal.standing_of-standing-requires-clause-hart
standing_of-standing-requires-clause-hart c = c.requires.harts.1

pub bring-requires-clause-seat : goal.bring-requires-clause-seat
bring-requires-clause-seat c = c.requires.own

pub bring-requires-clause-rests : goal.bring-requires-clause-rests
bring-requires-clause-rests c = subst (λ (n : ℕ). IsAtRest n c.args.own.me.0) (sym c.requires.same) c.requires.made.rests

pub bring-requires-clause-by : goal.bring-requires-clause-by
bring-requires-clause-by c =
    let first = c.args.first in (
      subst (λ (n : ℕ). first < n) (sym c.requires.same) c.requires.harts.0,
      c.requires.made.states first c.requires.harts.0 ∙ so_far_first first (state_in c.args.seat.now.me.0) c.args.hart first refl,
    )

pub bring-requires-clause-hart : goal.bring-requires-clause-hart
bring-requires-clause-hart c =
    let hart = c.args.hart in (
      subst (λ (n : ℕ). hart < n) (sym c.requires.same) c.requires.harts.1,
      c.requires.made.states hart c.requires.harts.1 ∙ so_far_above c.args.first (state_in c.args.seat.now.me.0) hart hart (eqb-false hart c.args.first (sym c.eq.ensures ∙ c.if-eq.false)) (omega arith),
    )

pub returns-clause-seat : goal.returns-clause-seat
returns-clause-seat c = c.standing_of-standing.ensures.seat

pub returns-clause-stays : goal.returns-clause-stays
returns-clause-stays c = c.standing_of-standing.ensures.same

pub returns-clause-own : goal.returns-clause-own
returns-clause-own c = c.bring.ensures.seat

pub returns-clause-made : goal.returns-clause-made
returns-clause-made c =
    made_next c.args.table.now.table.shared.key.harts c.args.made.now.table.shared.key.harts c.args.first c.args.hart _ c.args.seat.now.me.0 c.args.own.me.0 c.bring.result.me.0
    c.requires.same (eqb-false c.args.hart c.args.first (sym c.eq.ensures ∙ c.if-eq.false)) c.standing_of-standing.ensures.standing c.requires.made c.bring.ensures.becomes
