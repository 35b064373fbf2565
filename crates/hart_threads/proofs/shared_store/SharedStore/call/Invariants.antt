use Rattle.hart_threads.specs.Views.{bus_in}
use Rattle.hart_threads.proofs.shared_store.SharedStore.call.Given as goal

abbrev pub ghosts-call : goal.ghosts-call
ghosts-call g a = record { bus = bus_in a.self.now; asked = a.hart.now }
