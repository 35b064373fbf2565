use Rattle.std.proofs.Common.{[]}
use Rattle.hsm.specs.declared.view.Stage.TheVariants.{Running}
use Rattle.hsm.proofs.calls.try_enter_beside.Given as goal

abbrev pub ghosts-poll : goal.ghosts-poll
ghosts-poll g a = record { by = a.by; target = 0; address = 0; opaque = 0; beside = []; stage = Running; harts = a.table.now.table.shared.key.harts }

abbrev pub ghosts-read_address : goal.ghosts-read_address
ghosts-read_address g a = record { by = a.by; target = 0; address = 0; opaque = 0; beside = []; stage = Running; harts = a.table.now.table.shared.key.harts }

abbrev pub ghosts-read_opaque : goal.ghosts-read_opaque
ghosts-read_opaque g a = record { by = a.by; target = 0; address = a.address; opaque = 0; beside = []; stage = Running; harts = a.table.now.table.shared.key.harts }

abbrev pub ghosts-enter : goal.ghosts-enter
ghosts-enter g a = record { by = a.by; target = 0; address = a.address; opaque = a.opaque; beside = g.beside; stage = Running; harts = a.table.now.table.shared.key.harts }
