use Rattle.std.proofs.Common.{rules}
use Rattle.board_model.proofs.shape.Shape.new.Goals as goal

pub returns-clause-shape : goal.returns-clause-shape
returns-clause-shape c = search rules
