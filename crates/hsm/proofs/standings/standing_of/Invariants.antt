use Rattle.std.proofs.Common.{[]}
use Rattle.hsm.specs.declared.view.Stage.TheVariants.{Running}
use Rattle.hsm.proofs.standings.standing_of.Given as goal

abbrev pub ghosts-peek : goal.ghosts-peek
ghosts-peek a = record { by = 0; target = 0; address = 0; opaque = 0; beside = []; stage = Running; harts = a.table.now.table.shared.key.harts }

abbrev pub ghosts-peek_address : goal.ghosts-peek_address
ghosts-peek_address a = record { by = 0; target = a.hart; address = 0; opaque = 0; beside = []; stage = Running; harts = a.table.now.table.shared.key.harts }

abbrev pub ghosts-peek_opaque : goal.ghosts-peek_opaque
ghosts-peek_opaque a = record { by = 0; target = a.hart; address = 0; opaque = 0; beside = []; stage = Running; harts = a.table.now.table.shared.key.harts }
