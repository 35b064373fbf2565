use Rattle.ipi.proofs.table.PendingTable.join.Given as goal

abbrev pub ghosts-see : goal.ghosts-see
ghosts-see a = record { harts = a.table.now.table.shared.key; by = 0 }
