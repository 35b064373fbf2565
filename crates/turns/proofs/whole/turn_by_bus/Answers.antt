use Rattle.std.proofs.Common.{refl, sym, ap, ◌∙◌, subst, ◌<◌, ℕ}
use Rattle.hart.specs.State.{ArchState}
use Rattle.hsm.specs.declared.view.Stage.TheVariants.{Running}
use Rattle.sbi_calls.specs.Both.{GivesBack, Acts}
use Rattle.turns.specs.declared.readies.Ready.TheVariants as readies
use Rattle.turns.{specs.Turns.Rests, proofs.{Asking.asks, Begun.gives_then}}
use Rattle.turns.proofs.OneTurn.{rests_as, rests_by, gives_as, is_low, comes, entered, idle_turn, woke_turn, enters_turn, steps_turn}
use Rattle.turns.proofs.whole.turn_by_bus.Goals as goal

-- ---- a step leaves the hart's number
pub finish-requires-clause-hart : goal.finish-requires-clause-hart
finish-requires-clause-hart g c =
    let e = c.step_keeps_number.ensures _ c.args.hart.now c.step-outcome.new.hart _ _ _ c.step-outcome.ensures.3 in
    subst (λ (k : ℕ). k < c.args.shape.now.harts) (sym e) c.requires.hart

pub finish-requires-clause-acts : goal.finish-requires-clause-acts
finish-requires-clause-acts g c =
    let e = c.step_keeps_number.ensures _ c.args.hart.now c.step-outcome.new.hart _ _ _ c.step-outcome.ensures.3 in
    rests_as c.id.result c.step-outcome.new.hart.id c.begin-seats.result.1 _ c.begin-seats.result.0 c.in-Steps.is (c.id.ensures ∙ sym e) c.begin-seats.ensures.rests

pub returns-in-Steps-clause-gives : goal.returns-in-Steps-clause-gives
returns-in-Steps-clause-gives g c =
    let e = c.step_keeps_number.ensures _ c.args.hart.now c.step-outcome.new.hart _ _ _ c.step-outcome.ensures.3 in
    let t = c.args.tables.now in let s = c.args.seats in let s1 = c.begin-seats.result.0 in let s2 = c.finish.result.0 in
    gives_then t c.args.hart.now.id s s1 s2
    (subst (λ (k : ℕ). GivesBack t k s s1) c.id.ensures c.begin-seats.ensures.gives)
    (subst (λ (k : ℕ). GivesBack t k s1 s2) e c.finish.ensures.gives)

pub returns-in-Steps-clause-rests : goal.returns-in-Steps-clause-rests
returns-in-Steps-clause-rests g c =
    let e = c.step_keeps_number.ensures _ c.args.hart.now c.step-outcome.new.hart _ _ _ c.step-outcome.ensures.3 in
    subst (λ (k : ℕ). Rests k c.finish.result.0) e c.finish.ensures.rests

pub returns-in-Steps-clause-id : goal.returns-in-Steps-clause-id
returns-in-Steps-clause-id g c =
    let e = c.step_keeps_number.ensures _ c.args.hart.now c.step-outcome.new.hart _ _ _ c.step-outcome.ensures.3 in
    c.finish.ensures.id ∙ e

pub returns-in-Steps-clause-asks : goal.returns-in-Steps-clause-asks
returns-in-Steps-clause-asks g c is =
    let e = c.step_keeps_number.ensures _ c.args.hart.now c.step-outcome.new.hart _ _ _ c.step-outcome.ensures.3 in
    let by = c.step-outcome.new.hart.id in
    let acts = rests_as c.id.result by c.begin-seats.result.1 _ c.begin-seats.result.0 c.in-Steps.is (c.id.ensures ∙ sym e) c.begin-seats.ensures.rests in
    subst (λ (k : ℕ). Acts k Running c.finish.result.0) e
    (asks c.args.shape.now c.step-outcome.result c.step-outcome.new.hart c.finish.new.hart c.args.tables.now by c.begin-seats.result.0 c.finish.result.0 c.finish.result.1 c.finish.ensures.own c.finish.ensures.gives acts is)

-- ---- what the turn made, of a memory that the bus may hold
pub returns-in-Idle-clause-turns : goal.returns-in-Idle-clause-turns
returns-in-Idle-clause-turns g c =
    let began = comes c.args.shape.now c.args.hart.now _ c.id.result c.args.seats c.begin-seats.result.0 c.begin-seats.result.1 readies.Idle c.requires.tables c.id.ensures c.in-Idle.is c.begin-seats.ensures.own c.begin-seats.ensures.alone in
    let held = g.met.B.MemoryBus.holds_one c.args.bus.now in
    let turned = idle_turn c.args.shape.now c.args.hart.now held.0 c.args.seats c.begin-seats.result.0 _ _ began (held.1, refl) in
    (held.0, held.0, turned.0, turned.1, turned.2)

pub returns-in-Woke-clause-turns : goal.returns-in-Woke-clause-turns
returns-in-Woke-clause-turns g c =
    let began = comes c.args.shape.now c.args.hart.now _ c.id.result c.args.seats c.begin-seats.result.0 c.begin-seats.result.1 readies.Woke c.requires.tables c.id.ensures c.in-Woke.is c.begin-seats.ensures.own c.begin-seats.ensures.alone in
    let held = g.met.B.MemoryBus.holds_one c.args.bus.now in
    let turned = woke_turn c.args.shape.now c.args.hart.now held.0 c.args.seats c.begin-seats.result.0 _ _ began (held.1, refl) in
    (held.0, held.0, turned.0, turned.1, turned.2)

pub returns-in-Enters-clause-turns : goal.returns-in-Enters-clause-turns
returns-in-Enters-clause-turns g c =
    let began = comes c.args.shape.now c.args.hart.now _ c.id.result c.args.seats c.begin-seats.result.0 c.begin-seats.result.1 (readies.Enters c.in-Enters.address c.in-Enters.opaque) c.requires.tables c.id.ensures c.in-Enters.is c.begin-seats.ensures.own c.begin-seats.ensures.alone in
    let fresh = entered c.args.hart.now c.fresh.result c.id-in-Enters.result c.value.result c.in-Enters.address c.in-Enters.opaque c.fresh.ensures c.id-in-Enters.ensures c.value.ensures.value in
    let held = g.met.B.MemoryBus.holds_one c.args.bus.now in
    let turned = enters_turn c.args.shape.now c.args.hart.now c.fresh.result held.0 c.args.seats c.begin-seats.result.0 c.in-Enters.address c.in-Enters.opaque _ _ began (held.1, refl) fresh in
    (held.0, held.0, turned.0, turned.1, turned.2)

pub returns-in-Steps-clause-turns : goal.returns-in-Steps-clause-turns
returns-in-Steps-clause-turns g c =
    let began = comes c.args.shape.now c.args.hart.now _ c.id.result c.args.seats c.begin-seats.result.0 c.begin-seats.result.1 (readies.Steps c.in-Steps.pending) c.requires.tables c.id.ensures c.in-Steps.is c.begin-seats.ensures.own c.begin-seats.ensures.alone in
    let step = c.step-outcome.ensures in
    let turned = steps_turn c.args.shape.now c.args.hart.now c.step-outcome.new.hart c.finish.new.hart step.0 step.1 c.args.seats c.begin-seats.result.0 c.finish.result.0 c.in-Steps.pending c.step-outcome.result c.finish.result.1 _ _ began step.2 step.3 c.finish.ensures.own c.finish.ensures.alone in
    (step.0, step.1, turned.0, turned.1, turned.2)

pub begin-seats-requires-clause-seats : goal.begin-seats-requires-clause-seats
begin-seats-requires-clause-seats g c = c.requires.seats

pub begin-seats-requires-clause-by : goal.begin-seats-requires-clause-by
begin-seats-requires-clause-by g c = is_low c.id.result c.args.hart.now.id _ _ c.id.ensures c.requires.tables c.requires.hart

pub begin-seats-requires-clause-rests : goal.begin-seats-requires-clause-rests
begin-seats-requires-clause-rests g c = rests_by c.id.result c.args.hart.now.id c.args.seats c.id.ensures c.requires.rests

pub finish-requires-clause-tables : goal.finish-requires-clause-tables
finish-requires-clause-tables g c = c.requires.tables

pub finish-requires-clause-seats : goal.finish-requires-clause-seats
finish-requires-clause-seats g c = c.begin-seats.ensures.gives.seats

pub returns-in-Idle-clause-id : goal.returns-in-Idle-clause-id
returns-in-Idle-clause-id g c = refl

pub returns-in-Woke-clause-id : goal.returns-in-Woke-clause-id
returns-in-Woke-clause-id g c = refl

pub returns-in-Enters-clause-id : goal.returns-in-Enters-clause-id
returns-in-Enters-clause-id g c = ap (λ (s : ArchState). s.id) c.fresh.ensures ∙ c.id-in-Enters.ensures

pub returns-in-Idle-clause-gives : goal.returns-in-Idle-clause-gives
returns-in-Idle-clause-gives g c = gives_as c.args.tables.now c.id.result c.args.hart.now.id c.args.seats c.begin-seats.result.0 c.id.ensures c.begin-seats.ensures.gives

pub returns-in-Woke-clause-gives : goal.returns-in-Woke-clause-gives
returns-in-Woke-clause-gives g c = gives_as c.args.tables.now c.id.result c.args.hart.now.id c.args.seats c.begin-seats.result.0 c.id.ensures c.begin-seats.ensures.gives

pub returns-in-Enters-clause-gives : goal.returns-in-Enters-clause-gives
returns-in-Enters-clause-gives g c = gives_as c.args.tables.now c.id.result c.args.hart.now.id c.args.seats c.begin-seats.result.0 c.id.ensures c.begin-seats.ensures.gives

pub returns-in-Idle-clause-rests : goal.returns-in-Idle-clause-rests
returns-in-Idle-clause-rests g c = rests_as c.id.result c.args.hart.now.id c.begin-seats.result.1 _ c.begin-seats.result.0 c.in-Idle.is c.id.ensures c.begin-seats.ensures.rests

pub returns-in-Woke-clause-rests : goal.returns-in-Woke-clause-rests
returns-in-Woke-clause-rests g c = rests_as c.id.result c.args.hart.now.id c.begin-seats.result.1 _ c.begin-seats.result.0 c.in-Woke.is c.id.ensures c.begin-seats.ensures.rests

pub returns-in-Enters-clause-rests : goal.returns-in-Enters-clause-rests
returns-in-Enters-clause-rests g c = rests_as c.id.result c.args.hart.now.id c.begin-seats.result.1 _ c.begin-seats.result.0 c.in-Enters.is c.id.ensures c.begin-seats.ensures.rests
