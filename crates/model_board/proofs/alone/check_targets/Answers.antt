use Rattle.std.proofs.Common.{arith}
use Rattle.model_board.proofs.alone.check_targets.Goals as goal

pub returns-then-is_of_eight : goal.returns-then-is_of_eight
returns-then-is_of_eight c = λ _ t has. c.loop-number.invariant t (let low = c.is_of_eight.ensures c.if-is_of_eight.true t has in omega (arith, low)) has
