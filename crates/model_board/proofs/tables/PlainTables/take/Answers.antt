use Rattle.model_board.proofs.Plains.{taken_by}
use Rattle.model_board.proofs.tables.PlainTables.take.Goals as goal

pub returns : goal.returns
returns c = taken_by _ _ _ _ _ c.self.view_is c.self.invariant c.index.ensures.value c.requires
