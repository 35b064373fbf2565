use Rattle.model_board.proofs.Plains.{waits_by}
use Rattle.model_board.proofs.tables.PlainTables.is_pending.Goals as goal

pub returns : goal.returns
returns c = waits_by _ _ _ _ _ _ c.self.view_is c.self.invariant c.index.ensures.value c.requires c.index-2.ensures
