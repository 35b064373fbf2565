use Rattle.hart_threads.specs.Bused.{call_turn, held_call}
use Rattle.hart_threads.proofs.bus_turns.note_asked.Given as goal

abbrev pub ghosts-note_turn : goal.ghosts-note_turn
ghosts-note_turn g a =
    let of = a._values.now in
    record { entry = call_turn (held_call g.A.RemembersCall.asked of.1.now of.2) g.A.RemembersCall.bus of.0.now }
