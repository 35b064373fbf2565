use Rattle.hsm.proofs.table.HartTable.join.Given as goal

abbrev pub ghosts-see : goal.ghosts-see
ghosts-see a = record { harts = a.table.now.table.shared.key.harts; started = a.table.now.table.shared.key.started }
