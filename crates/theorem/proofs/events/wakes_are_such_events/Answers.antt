use Rattle.theorem.proofs.Calls.{woken}
use Rattle.theorem.proofs.events.wakes_are_such_events.Goals as goal

pub returns : goal.returns
returns c = woken
