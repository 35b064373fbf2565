use Rattle.machine.proofs.Determined as determined
use Rattle.machine.proofs.laws.machine_determines_turn.Goals as goal

pub returns-clause-turn : goal.returns-clause-turn
returns-clause-turn c = determined.machine_determines_turn c.state_determines_step.ensures

pub returns-clause-call : goal.returns-clause-call
returns-clause-call c = determined.registers_determine_call
