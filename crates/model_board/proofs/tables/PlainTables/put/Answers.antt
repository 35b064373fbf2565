use Rattle.model_board.proofs.Plains.{put_by}
use Rattle.model_board.proofs.tables.PlainTables.put.Goals as goal

pub returns : goal.returns
returns c = put_by _ _ _ _ _ _ c.self.view_is c.index.ensures.value
