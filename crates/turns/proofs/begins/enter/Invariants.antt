use Rattle.sbi_calls.specs.Both.{known}
use Rattle.turns.specs.Own.{places_of}
use Rattle.turns.proofs.begins.enter.Given as goal

abbrev pub ghost-enter_taken : goal.ghost-enter_taken
ghost-enter_taken a = places_of a.by (known a.seats).pairs
