use Rattle.theorem.proofs.Histories.{answered, taken, ended}
use Rattle.theorem.proofs.events.events_in_order.Goals as goal

pub returns-clause-answers : goal.returns-clause-answers
returns-clause-answers c = answered

pub returns-clause-taken : goal.returns-clause-taken
returns-clause-taken c = taken

pub returns-clause-ended : goal.returns-clause-ended
returns-clause-ended c = ended
