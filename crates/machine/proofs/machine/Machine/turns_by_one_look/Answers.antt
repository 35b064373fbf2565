use Rattle.std.proofs.Common.{sym, ◌∙◌}
use Rattle.machine.proofs.{Asking.row_asks, Rows.{own_row, doze_row, rows_as_many}}
use Rattle.machine.proofs.machine.Machine.turns_by_one_look.Goals as goal

pub returns-in-Some-clause-row : goal.returns-in-Some-clause-row
returns-in-Some-clause-row c = doze_row c.in-Some.doze c.args.id _ _ _ (sym c.dozes.ensures ∙ c.in-Some.is) c.doze_turn.ensures

pub returns-in-None-clause-row : goal.returns-in-None-clause-row
returns-in-None-clause-row c = own_row c.args.id c.args.self.now c.requires.hart (sym c.dozes.ensures ∙ c.in-None.is) c.own_row.result.0 _ _ c.own_row.ensures.row

pub returns-in-Some-clause-asks : goal.returns-in-Some-clause-asks
returns-in-Some-clause-asks c = row_asks c.step_keeps_number.ensures c.args.id 1 _ _ _ c.requires.hart (returns-in-Some-clause-row c)

pub returns-in-None-clause-asks : goal.returns-in-None-clause-asks
returns-in-None-clause-asks c = row_asks c.step_keeps_number.ensures c.args.id _ _ _ _ c.requires.hart (returns-in-None-clause-row c)

pub returns-in-Some-clause-harts : goal.returns-in-Some-clause-harts
returns-in-Some-clause-harts c = rows_as_many c.args.id 1 _ _ _ (returns-in-Some-clause-row c)

pub returns-in-None-clause-harts : goal.returns-in-None-clause-harts
returns-in-None-clause-harts c = rows_as_many c.args.id _ _ _ _ (returns-in-None-clause-row c)

pub doze_turn-requires-clause-hart : goal.doze_turn-requires-clause-hart
doze_turn-requires-clause-hart c = c.requires.hart

pub doze_turn-requires-clause-dozes : goal.doze_turn-requires-clause-dozes
doze_turn-requires-clause-dozes c = sym c.dozes.ensures ∙ c.in-Some.is

pub own_row-requires-clause-hart : goal.own_row-requires-clause-hart
own_row-requires-clause-hart c = c.requires.hart

pub own_row-requires-clause-awake : goal.own_row-requires-clause-awake
own_row-requires-clause-awake c = sym c.dozes.ensures ∙ c.in-None.is

pub own_row-requires-clause-some : goal.own_row-requires-clause-some
own_row-requires-clause-some c = c.requires.some

pub returns-in-None-clause-range : goal.returns-in-None-clause-range
returns-in-None-clause-range c = c.own_row.ensures.range
