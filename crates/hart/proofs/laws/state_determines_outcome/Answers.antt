use Rattle.hart.proofs.Outcomes.{one_meaning}
use Rattle.hart.proofs.laws.state_determines_outcome.Goals as goal

pub returns : goal.returns
returns c = one_meaning c.number_determines_store.ensures
