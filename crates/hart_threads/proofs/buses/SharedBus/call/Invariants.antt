use Rattle.hart_threads.proofs.buses.SharedBus.call.Given as goal

abbrev pub ghosts-note_call : goal.ghosts-note_call
ghosts-note_call g a = record { bus = g.A.RemembersCall.bus; asked = g.A.RemembersCall.asked }
