use Rattle.std.proofs.{Common.{refl, sym, ◌∙◌}, lemmas.Result.err_from_is_err_and}
use Rattle.machine.proofs.{Holding.{all_seats, seats_there, held_with, shows_with, copy_held, copy_shows}, Refused.{no_room, nothing_made}}
use Rattle.machine.proofs.machine.Machine.copy.Goals as goal

pub returns-in_err-ram-clause-stays : goal.returns-in_err-ram-clause-stays
returns-in_err-ram-clause-stays c = refl

pub returns-in_err-ram-clause-same : goal.returns-in_err-ram-clause-same
returns-in_err-ram-clause-same c = let p = err_from_is_err_and c.from_residual.result c.from_residual.ensures.1 in nothing_made _ _ _ p.1

pub returns-in_err-ram-clause-refused : goal.returns-in_err-ram-clause-refused
returns-in_err-ram-clause-refused c = let p = err_from_is_err_and c.from_residual.result c.from_residual.ensures.1 in no_room _ _ _ p.1 p.2 c.in_err-ram.ensures.refused

pub returns-in_err-harts-clause-stays : goal.returns-in_err-harts-clause-stays
returns-in_err-harts-clause-stays c = refl

pub returns-in_err-harts-clause-same : goal.returns-in_err-harts-clause-same
returns-in_err-harts-clause-same c = let p = err_from_is_err_and c.from_residual-in_err-harts.result c.from_residual-in_err-harts.ensures.1 in nothing_made _ _ _ p.1

pub returns-in_err-harts-clause-refused : goal.returns-in_err-harts-clause-refused
returns-in_err-harts-clause-refused c = let p = err_from_is_err_and c.from_residual-in_err-harts.result c.from_residual-in_err-harts.ensures.1 in no_room _ _ _ p.1 p.2 c.in_err-harts.ensures.refused

pub copy_tables-made-requires-clause-tables : goal.copy_tables-made-requires-clause-tables
copy_tables-made-requires-clause-tables c = c.self.invariant.tables

pub returns-in_err-tables-clause-same : goal.returns-in_err-tables-clause-same
returns-in_err-tables-clause-same c = let p = err_from_is_err_and c.from_residual-in_err-tables.result c.from_residual-in_err-tables.ensures.1 in nothing_made _ _ _ p.1

pub returns-in_err-tables-clause-refused : goal.returns-in_err-tables-clause-refused
returns-in_err-tables-clause-refused c = let p = err_from_is_err_and c.from_residual-in_err-tables.result c.from_residual-in_err-tables.ensures.1 in no_room _ _ _ p.1 p.2 c.in_err-tables.ensures.refused

pub returns-clause-refused : goal.returns-clause-refused
returns-clause-refused c = tt

pub unwrap-seats-requires : goal.unwrap-seats-requires
unwrap-seats-requires c = let i = c.self.inside in seats_there i.shape i.harts.items i.tables i.seats c.take.result i.bus.doze c.self.invariant c.take.ensures.value

pub copy_tables-made-requires-clause-whole : goal.copy_tables-made-requires-clause-whole
copy_tables-made-requires-clause-whole c =
    let i = c.self.inside in
    all_seats i.shape i.harts.items i.tables i.seats c.unwrap-seats.result i.bus.doze c.self.invariant (sym c.take.ensures.value ∙ c.unwrap-seats.ensures)

pub invariant_of-self : goal.invariant_of-self
invariant_of-self c = let i = c.self.inside in held_with i.shape i.harts.items i.tables i.seats c.copy_tables-made.new.seats i.bus.doze c.self.invariant c.copy_tables-made.ensures.whole

pub invariant_of-self-2 : goal.invariant_of-self-2
invariant_of-self-2 c = let i = c.self.inside in held_with i.shape i.harts.items i.tables i.seats c.copy_tables-made.new.seats i.bus.doze c.self.invariant c.copy_tables-made.ensures.whole

pub returns-in_err-tables-clause-stays : goal.returns-in_err-tables-clause-stays
returns-in_err-tables-clause-stays c =
    shows_with c.self.inside c.args.self.now c.unwrap-seats.result c.copy_tables-made.new.seats c.self.view_is (sym c.take.ensures.value ∙ c.unwrap-seats.ensures) c.copy_tables-made.ensures.same

pub returns-clause-stays : goal.returns-clause-stays
returns-clause-stays c =
    shows_with c.self.inside c.args.self.now c.unwrap-seats.result c.copy_tables-made.new.seats c.self.view_is (sym c.take.ensures.value ∙ c.unwrap-seats.ensures) c.copy_tables-made.ensures.same

pub invariant_of-result : goal.invariant_of-result
invariant_of-result c =
    copy_held c.self.inside c.args.self.now c.unwrap-seats.result c.in_ok-tables.all c.in_ok-harts.harts.items c.self.view_is (sym c.take.ensures.value ∙ c.unwrap-seats.ensures) (c.in_ok-harts.ensures.same ∙ c.as_slice.ensures.value)
    c.in_ok-tables.tables c.self.invariant c.in_ok-tables.ensures.tables c.in_ok-tables.ensures.seats

pub returns-clause-same : goal.returns-clause-same
returns-clause-same c =
    copy_shows c.self.inside c.args.self.now c.unwrap-seats.result c.in_ok-tables.all c.in_ok-harts.harts.items c.self.view_is (sym c.take.ensures.value ∙ c.unwrap-seats.ensures) (c.in_ok-harts.ensures.same ∙ c.as_slice.ensures.value)
    c.in_ok-ram.ram c.in_ok-ram.ensures.same c.in_ok-tables.ensures.shows
