use Rattle.hart.proofs.Numbered.{step_keeps}
use Rattle.hart.proofs.laws.step_keeps_number.Goals as goal

pub returns : goal.returns
returns c = step_keeps
