use Rattle.hart_threads.proofs.bus_turns.note_look.Goals as goal

pub returns-clause-part : goal.returns-clause-part
returns-clause-part g c = (_, c.note_turn.ensures.part)
