use Rattle.store.proofs.{Bridges.stands_marked, States.content_determines_state}
use Rattle.store.proofs.laws.content_determines_state.Goals as goal

pub returns-clause-one : goal.returns-clause-one
returns-clause-one c = content_determines_state

pub returns-clause-marked : goal.returns-clause-marked
returns-clause-marked c = stands_marked
