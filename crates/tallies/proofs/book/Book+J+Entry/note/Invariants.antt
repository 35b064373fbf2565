use Rattle.tallies.proofs.book.Book+J+Entry.note.Given as goal

abbrev pub ghosts-note_entry : goal.ghosts-note_entry
ghosts-note_entry g a = record { entry = a.entry }
