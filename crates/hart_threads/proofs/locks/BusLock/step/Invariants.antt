use Rattle.hart_threads.specs.Views.{bus_in}
use Rattle.hart_threads.proofs.locks.BusLock.step.Given as goal

abbrev pub ghosts-step : goal.ghosts-step
ghosts-step g a = record { found = bus_in a.self.now }
