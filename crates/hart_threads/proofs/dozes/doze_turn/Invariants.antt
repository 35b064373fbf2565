use Rattle.hart_threads.specs.Views.{bus_in}
use Rattle.hart_threads.proofs.dozes.doze_turn.Given as goal

abbrev pub ghosts-end_doze : goal.ghosts-end_doze
ghosts-end_doze g a = record { found = bus_in a.self.now }
