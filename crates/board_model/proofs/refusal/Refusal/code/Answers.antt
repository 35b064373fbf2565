use Rattle.std.proofs.Common.{rules}
use Rattle.board_model.proofs.refusal.Refusal.code.Goals as goal

pub returns-in-Down : goal.returns-in-Down
returns-in-Down c = search rules
