use Rattle.ipi.proofs.table.PendingTable.senders.Given as goal

abbrev pub ghosts-peek_at : goal.ghosts-peek_at
ghosts-peek_at a = record { harts = a.table.now.table.shared.key; by = 0 }
