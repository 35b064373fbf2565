use Rattle.hart_threads.specs.Views.{bus_in}
use Rattle.board_session.proofs.waking.Waking.call.Given as goal

abbrev pub ghosts-wake : goal.ghosts-wake
ghosts-wake g a = record { found = bus_in a.self.now }
