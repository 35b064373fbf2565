use Rattle.hart_threads.specs.Bused.{bus_turn}
use Rattle.hart_threads.proofs.buses.SharedBus.end_doze.Given as goal

abbrev pub ghosts-note_turn : goal.ghosts-note_turn
ghosts-note_turn g a = record { entry = bus_turn g.A.Remembers.found a._values.now }
