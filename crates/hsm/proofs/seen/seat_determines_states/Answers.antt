use Rattle.hsm.proofs.Computed.{seat_determines_states, one_list, changed, shows_seen}
use Rattle.hsm.proofs.seen.seat_determines_states.Goals as goal

pub returns-clause-one : goal.returns-clause-one
returns-clause-one c = seat_determines_states

pub returns-clause-seen : goal.returns-clause-seen
returns-clause-seen c = shows_seen

pub returns-clause-list : goal.returns-clause-list
returns-clause-list c = one_list

pub returns-clause-changed : goal.returns-clause-changed
returns-clause-changed c = changed
