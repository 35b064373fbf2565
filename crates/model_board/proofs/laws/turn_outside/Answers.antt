use Rattle.model_board.proofs.Outside as outside
use Rattle.model_board.proofs.laws.turn_outside.Goals as goal

pub returns : goal.returns
returns c = outside.turn_outside
