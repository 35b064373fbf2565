use Rattle.std.proofs.Common.{rules}
use Rattle.board_model.proofs.durable.Durable.after.Goals as goal

pub returns-in_ok-slot-in-Slot : goal.returns-in_ok-slot-in-Slot
returns-in_ok-slot-in-Slot c = search rules
