use Rattle.board_model.proofs.Table.{same_refusal, same_after}
use Rattle.board_model.proofs.laws.no_memory_is_read.Goals as goal

pub returns-clause-refusal : goal.returns-clause-refusal
returns-clause-refusal c = same_refusal

pub returns-clause-next : goal.returns-clause-next
returns-clause-next c = same_after
