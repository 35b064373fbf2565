use Rattle.hart.proofs.Outcomes.{state_determines_step}
use Rattle.hart.proofs.laws.state_determines_step.Goals as goal

pub returns : goal.returns
returns c = state_determines_step c.number_determines_store.ensures
