use Rattle.std.proofs.Common.{sym, ◌∙◌, subst}
use Rattle.machine.{specs.Turns.TurnBy, proofs.{Asking.turn_asks, Rows.turns_as_many}}
use Rattle.machine.proofs.machine.Machine.turn.Goals as goal

pub returns-in-Some-clause-turns : goal.returns-in-Some-clause-turns
returns-in-Some-clause-turns c = subst (λ o. TurnBy o c.args.id c.args.self.now c.doze_turn.new.self c.doze_turn.result) (sym c.in-Some.is ∙ c.dozes.ensures) c.doze_turn.ensures

pub returns-in-None-clause-turns : goal.returns-in-None-clause-turns
returns-in-None-clause-turns c = subst (λ o. TurnBy o c.args.id c.args.self.now c.own_turn.new.self c.own_turn.result) (sym c.in-None.is ∙ c.dozes.ensures) c.own_turn.ensures

pub returns-in-Some-clause-asks : goal.returns-in-Some-clause-asks
returns-in-Some-clause-asks c = turn_asks c.step_keeps_number.ensures c.args.id _ _ _ c.requires (returns-in-Some-clause-turns c)

pub returns-in-None-clause-asks : goal.returns-in-None-clause-asks
returns-in-None-clause-asks c = turn_asks c.step_keeps_number.ensures c.args.id _ _ _ c.requires (returns-in-None-clause-turns c)

pub returns-in-Some-clause-harts : goal.returns-in-Some-clause-harts
returns-in-Some-clause-harts c = turns_as_many c.args.id _ _ _ (returns-in-Some-clause-turns c)

pub returns-in-None-clause-harts : goal.returns-in-None-clause-harts
returns-in-None-clause-harts c = turns_as_many c.args.id _ _ _ (returns-in-None-clause-turns c)

pub doze_turn-requires-clause-hart : goal.doze_turn-requires-clause-hart
doze_turn-requires-clause-hart c = c.requires

pub doze_turn-requires-clause-dozes : goal.doze_turn-requires-clause-dozes
doze_turn-requires-clause-dozes c = sym c.dozes.ensures ∙ c.in-Some.is

pub own_turn-requires-clause-hart : goal.own_turn-requires-clause-hart
own_turn-requires-clause-hart c = c.requires

pub own_turn-requires-clause-awake : goal.own_turn-requires-clause-awake
own_turn-requires-clause-awake c = sym c.dozes.ensures ∙ c.in-None.is
