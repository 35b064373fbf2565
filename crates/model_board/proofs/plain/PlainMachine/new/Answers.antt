use Rattle.model_board.proofs.Begins.{new_plain}
use Rattle.model_board.proofs.plain.PlainMachine.new.Goals as goal

pub invariant_of-result : goal.invariant_of-result
invariant_of-result c = new_plain _ _ _ _ c.shape_in_range.ensures c.in_ok-ram.ensures.zeros c.in_ok-harts.ensures.harts c.in_ok-tables.ensures.states
