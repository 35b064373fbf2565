use Rattle.std.proofs.{Common.{ℕ, ◌<◌, Option, IfSome, refl, sym, ◌∙◌, subst}, lemmas.Result.err_from_is_err_and}
use Rattle.hsm.specs.{declared.view.Stage.TheVariants.Quiet, Rule.stands, Copies.stage_by, Views.state_in}
use Rattle.sbi_calls.specs.{declared.tables.Seats.Seats, Both.{views, harts_known}}
use Rattle.machine.proofs.{Refused.{is_memory, nothing_made}, Copying.{stays_whole, stays_shown, quiet_stands, copy_whole}}
use Rattle.machine.proofs.copies.copy_tables.Goals as goal

pub copy-requires-clause-quiet : goal.copy-requires-clause-quiet
copy-requires-clause-quiet c =
    subst (λ (q : Option ℕ). IfSome q (λ h. (h < c.args.shape.now.harts) × stands h Quiet (views c.args.seats.now))) (sym c.quiet_hart-quiet.ensures)
    (quiet_stands c.args.shape.now.harts c.args.doze.now c.args.seats.now c.requires.whole.rests)

-- ---- the seats that are copied
pub returns-in_err-harts-clause-whole : goal.returns-in_err-harts-clause-whole
returns-in_err-harts-clause-whole c = stays_whole c.args.shape.now.harts c.args.seats.now _ c.copy.ensures.same refl c.args.tables.now c.args.doze.now c.requires.whole (c.copy.ensures.stays, c.requires.whole.seats.1)

pub returns-in_err-harts-clause-same : goal.returns-in_err-harts-clause-same
returns-in_err-harts-clause-same c = stays_shown c.args.shape.now.harts c.args.seats.now (record { harts = c.copy.new.seat; pending = c.args.seats.now.pending }) c.copy.ensures.same refl

pub returns-in_err-pending-clause-whole : goal.returns-in_err-pending-clause-whole
returns-in_err-pending-clause-whole c = stays_whole c.args.shape.now.harts c.args.seats.now _ c.copy.ensures.same c.copy-2.ensures.same c.args.tables.now c.args.doze.now c.requires.whole (c.copy.ensures.stays, c.copy-2.ensures.stays)

pub returns-in_err-pending-clause-same : goal.returns-in_err-pending-clause-same
returns-in_err-pending-clause-same c = stays_shown c.args.shape.now.harts c.args.seats.now (record { harts = c.copy.new.seat; pending = c.copy-2.new.seat }) c.copy.ensures.same c.copy-2.ensures.same

pub returns-clause-whole : goal.returns-clause-whole
returns-clause-whole c = stays_whole c.args.shape.now.harts c.args.seats.now _ c.copy.ensures.same c.copy-2.ensures.same c.args.tables.now c.args.doze.now c.requires.whole (c.copy.ensures.stays, c.copy-2.ensures.stays)

pub returns-clause-same : goal.returns-clause-same
returns-clause-same c = stays_shown c.args.shape.now.harts c.args.seats.now (record { harts = c.copy.new.seat; pending = c.copy-2.new.seat }) c.copy.ensures.same c.copy-2.ensures.same

-- ---- and those of the copy
pub returns-clause-seats : goal.returns-clause-seats
returns-clause-seats c =
    let own : Seats = record { harts = c.in_ok-harts.all; pending = c.in_ok-pending.pairs } in
    let t = c.in_ok-harts.ensures in
    let p = c.in_ok-pending.ensures in
    copy_whole c.seat_determines_states.ensures.list c.seat_determines_pairs.ensures.list c.args.shape.now.harts _ c.args.seats.now own c.args.doze.now (t.seat, p.seat) (t.all, p.all) (t.states, p.pairs)
    (λ h lt. subst (λ (q : Option ℕ). stands h (stage_by q h (state_in (harts_known c.args.seats.now) h)) (views own)) c.quiet_hart-quiet.ensures (t.stands h lt))

pub copy-requires-clause-seat : goal.copy-requires-clause-seat
copy-requires-clause-seat c = c.requires.whole.seats.0

pub copy-requires-clause-harts : goal.copy-requires-clause-harts
copy-requires-clause-harts c = c.requires.tables

pub copy-requires-clause-shows : goal.copy-requires-clause-shows
copy-requires-clause-shows c = c.requires.whole.shows.0

pub returns-in_err-harts-clause-tables : goal.returns-in_err-harts-clause-tables
returns-in_err-harts-clause-tables c = let p = err_from_is_err_and c.from_residual.result c.from_residual.ensures.1 in nothing_made _ _ _ p.1

pub returns-in_err-harts-clause-seats : goal.returns-in_err-harts-clause-seats
returns-in_err-harts-clause-seats c = let p = err_from_is_err_and c.from_residual.result c.from_residual.ensures.1 in nothing_made _ _ _ p.1

pub returns-in_err-harts-clause-shows : goal.returns-in_err-harts-clause-shows
returns-in_err-harts-clause-shows c = let p = err_from_is_err_and c.from_residual.result c.from_residual.ensures.1 in nothing_made _ _ _ p.1

pub returns-in_err-harts-clause-refused : goal.returns-in_err-harts-clause-refused
returns-in_err-harts-clause-refused c = let p = err_from_is_err_and c.from_residual.result c.from_residual.ensures.1 in is_memory _ _ p.1 (p.2 ∙ c.in_err-harts.ensures.memory)

pub copy-requires-2-clause-seat : goal.copy-requires-2-clause-seat
copy-requires-2-clause-seat c = c.requires.whole.seats.1

pub copy-requires-2-clause-all : goal.copy-requires-2-clause-all
copy-requires-2-clause-all c = c.requires.whole.all.1

pub copy-requires-2-clause-shows : goal.copy-requires-2-clause-shows
copy-requires-2-clause-shows c = c.requires.whole.shows.1

pub returns-in_err-pending-clause-tables : goal.returns-in_err-pending-clause-tables
returns-in_err-pending-clause-tables c = let p = err_from_is_err_and c.from_residual-in_err-pending.result c.from_residual-in_err-pending.ensures.1 in nothing_made _ _ _ p.1

pub returns-in_err-pending-clause-seats : goal.returns-in_err-pending-clause-seats
returns-in_err-pending-clause-seats c = let p = err_from_is_err_and c.from_residual-in_err-pending.result c.from_residual-in_err-pending.ensures.1 in nothing_made _ _ _ p.1

pub returns-in_err-pending-clause-shows : goal.returns-in_err-pending-clause-shows
returns-in_err-pending-clause-shows c = let p = err_from_is_err_and c.from_residual-in_err-pending.result c.from_residual-in_err-pending.ensures.1 in nothing_made _ _ _ p.1

pub returns-in_err-pending-clause-refused : goal.returns-in_err-pending-clause-refused
returns-in_err-pending-clause-refused c = let p = err_from_is_err_and c.from_residual-in_err-pending.result c.from_residual-in_err-pending.ensures.1 in is_memory _ _ p.1 (p.2 ∙ c.in_err-pending.ensures.memory)

pub returns-clause-tables : goal.returns-clause-tables
returns-clause-tables c = c.in_ok-harts.ensures.harts

pub returns-clause-refused : goal.returns-clause-refused
returns-clause-refused c = tt
