use Rattle.turns.proofs.begins.enter_taken.Given as goal

abbrev pub ghost-try_enter_beside : goal.ghost-try_enter_beside
ghost-try_enter_beside g a = g.beside
