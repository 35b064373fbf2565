use Rattle.model_board.proofs.Once as once
use Rattle.model_board.proofs.laws.event_determines_board.Goals as goal

pub returns : goal.returns
returns c = once.event_determines_board c.machine_determines_turn.ensures.turn
