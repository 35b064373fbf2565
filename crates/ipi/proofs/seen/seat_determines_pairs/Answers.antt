use Rattle.ipi.proofs.Computed.{seat_determines_pairs, shows_seen, in_range, one_list, at_pairs, one_more, one_less}
use Rattle.ipi.proofs.seen.seat_determines_pairs.Goals as goal

pub returns-clause-one : goal.returns-clause-one
returns-clause-one c = seat_determines_pairs

pub returns-clause-seen : goal.returns-clause-seen
returns-clause-seen c = shows_seen

pub returns-clause-range : goal.returns-clause-range
returns-clause-range c = in_range

pub returns-clause-list : goal.returns-clause-list
returns-clause-list c = one_list

pub returns-clause-read : goal.returns-clause-read
returns-clause-read c = at_pairs

pub returns-clause-raised : goal.returns-clause-raised
returns-clause-raised c = one_more

pub returns-clause-taken : goal.returns-clause-taken
returns-clause-taken c = one_less
