use Rattle.hart.proofs.Determined as determined
use Rattle.hart.proofs.laws.operands_determine_result.Goals as goal

pub returns : goal.returns
returns c = determined.operands_determine_result
