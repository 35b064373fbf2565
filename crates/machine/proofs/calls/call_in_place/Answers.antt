use Rattle.std.proofs.Common.{◌≡◌, ℕ, refl, sym, ap, ◌∙◌, subst}
use Rattle.hart.specs.State.{ArchState}
use Rattle.hsm.specs.{Seating.harts_in, declared.view.Stage.TheVariants.Running, Rule.stands, Calls.Sits}
use Rattle.ipi.specs.Pairs.{Sits as SitsIn}
use Rattle.sbi_calls.specs.Both.{GivesBack, views, pair_crew}
use Rattle.turns.{specs.Turns.RestsAt, proofs.Begun.{sits, runs}}
use Rattle.machine.proofs.Calling.{rests_kept, with_harts, made_alone, not_made_alone, as_was, given_then}
use Rattle.machine.proofs.calls.call_in_place.Goals as goal

pub status-harts-requires-clause-acts : goal.status-harts-requires-clause-acts
status-harts-requires-clause-acts c = subst (λ (h : ℕ). Sits h (views c.args.seats)) (sym c.id-by.ensures) (sits c.args.hart.now.id (views c.args.seats) c.requires.rests.0)

pub finish-seats-requires-clause-acts : goal.finish-seats-requires-clause-acts
finish-seats-requires-clause-acts c =
    let id : c.set_registers.new.hart.id ≡ c.args.hart.now.id = ap (λ (s : ArchState). s.id) c.set_registers.ensures in
    let rest = subst (λ (h : ℕ). RestsAt h (views c.args.seats)) (sym c.id-by.ensures) c.requires.rests.0 in
    let run = c.status-harts.ensures.stays.stages _ _ (runs c.id-by.result (views c.args.seats) c.status-harts.result.1 c.status-harts.ensures.fresh rest c.in-Started.is) in
    (subst (λ (h : ℕ). stands h Running (harts_in c.status-harts.result.0)) (c.id-by.ensures ∙ sym id) run, subst (λ (h : ℕ). SitsIn h (pair_crew c.args.seats)) (sym id) c.requires.rests.1)

pub returns-in-Started-clause-gives : goal.returns-in-Started-clause-gives
returns-in-Started-clause-gives c =
    let id : c.set_registers.new.hart.id ≡ c.args.hart.now.id = ap (λ (s : ArchState). s.id) c.set_registers.ensures in
    given_then c.args.hart.now.id c.args.seats c.status-harts.result.0 c.finish-seats.result.0 c.status-harts.ensures.stays
    (subst (λ (k : ℕ). GivesBack c.args.tables.now k (with_harts c.args.seats c.status-harts.result.0) c.finish-seats.result.0) id c.finish-seats.ensures.gives)

pub returns-in-Started-clause-alone : goal.returns-in-Started-clause-alone
returns-in-Started-clause-alone c = λ m.
    made_alone c.args.shape.now _ c.id-by.result c.args.hart.now _ m c.set_registers.new.hart c.finish-seats.new.hart c.args.seats c.status-harts.result.0 c.finish-seats.result.0 c.status-harts.result.1 c.finish-seats.result.1 c.requires.tables
    c.id-by.ensures c.in-Started.is c.set_registers.ensures c.status-harts.ensures.alone c.finish-seats.ensures.alone

pub returns-in_default : goal.returns-in_default
returns-in_default c = record {
  gives = as_was c.args.hart.now.id c.args.seats c.status-harts.result.0 (c.status-harts.ensures.seat, c.requires.seats.1) c.status-harts.ensures.stays;
  rests = (rests_kept c.args.hart.now.id (views c.args.seats) (harts_in c.status-harts.result.0) c.status-harts.ensures.stays c.requires.rests.0, c.requires.rests.1);
  id = refl;
  alone = λ m. not_made_alone c.args.shape.now _ c.id-by.result c.args.hart.now _ m c.args.seats c.status-harts.result.0 c.status-harts.result.1 c.requires.tables c.id-by.ensures c.in_default.not-Started c.status-harts.ensures.alone;
}

pub status-harts-requires-clause-seat : goal.status-harts-requires-clause-seat
status-harts-requires-clause-seat c = c.requires.seats.0

pub finish-seats-requires-clause-tables : goal.finish-seats-requires-clause-tables
finish-seats-requires-clause-tables c = c.requires.tables

pub finish-seats-requires-clause-seats : goal.finish-seats-requires-clause-seats
finish-seats-requires-clause-seats c = (c.status-harts.ensures.seat, c.requires.seats.1)
