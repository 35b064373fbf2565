use Rattle.machine.proofs.Standing.{no_turn, no_call, no_moves, no_asking}
use Rattle.machine.proofs.laws.a_doze_stands.Goals as goal

pub returns-clause-turn : goal.returns-clause-turn
returns-clause-turn c = no_turn

pub returns-clause-call : goal.returns-clause-call
returns-clause-call c = no_call

pub returns-clause-moves : goal.returns-clause-moves
returns-clause-moves c = no_moves

pub returns-clause-asks : goal.returns-clause-asks
returns-clause-asks c = no_asking
