use Rattle.tests.specs.Race.{AreReady}
use Rattle.tests.proofs.race.rounds.Given as goal

abbrev pub invariant-loop : goal.invariant-loop
invariant-loop g l = AreReady l.table l.racers.first l.racers.second l.racers.third
