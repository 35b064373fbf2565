use Rattle.std.proofs.Common.{rules}
use Rattle.board_model.proofs.durable.Durable.without_image.Goals as goal

pub returns-clause-consume : goal.returns-clause-consume
returns-clause-consume c = search rules

pub returns-clause-discard : goal.returns-clause-discard
returns-clause-discard c = search rules
