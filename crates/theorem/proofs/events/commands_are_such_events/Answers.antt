use Rattle.board_model.specs.Durable.{Suspend}
use Rattle.store.specs.Follows.{FitsBoard}
use Rattle.theorem.proofs.Calls.{applied, suspended}
use Rattle.theorem.proofs.events.commands_are_such_events.Goals as goal

pub returns-clause-applied : goal.returns-clause-applied
returns-clause-applied c = applied

pub returns-clause-suspended : goal.returns-clause-suspended
returns-clause-suspended c w old new size hart address opaque memory result lived calm did = suspended (FitsBoard size memory hart address) w old new (Suspend hart address opaque memory) result lived calm did
