use Rattle.std.proofs.Common.{rules}
use Rattle.board_model.proofs.plain.Plain.after_command.Goals as goal

pub returns : goal.returns
returns c = search rules
