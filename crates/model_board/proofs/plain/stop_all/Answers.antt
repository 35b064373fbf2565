use Rattle.std.proofs.Common.{arith}
use Rattle.model_board.proofs.Stopping.{all_stopped}
use Rattle.model_board.proofs.plain.stop_all.Goals as goal

pub returns : goal.returns
returns c = all_stopped _ _ c.loop-place.invariant.long (λ k low. c.loop-place.invariant.done k (omega (arith, low)))
