use Rattle.theorem.proofs.Images.{shows_suspended}
use Rattle.theorem.proofs.laws.images_go_on_once.Goals as goal

pub returns : goal.returns
returns c = λ size faults asked seen w told. shows_suspended size faults w asked seen told
