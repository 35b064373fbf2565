use Rattle.std.proofs.Common.{[]}
use Rattle.hsm.specs.declared.view.Stage.TheVariants.{Running}
use Rattle.hsm.proofs.calls.start.Given as goal

abbrev pub ghosts-claim : goal.ghosts-claim
ghosts-claim a = record { by = a.by; target = a.target; address = a.address; opaque = a.opaque; beside = []; stage = Running; harts = a.table.now.table.shared.key.harts }

abbrev pub ghosts-put_address : goal.ghosts-put_address
ghosts-put_address a = record { by = a.by; target = a.target; address = a.address; opaque = a.opaque; beside = []; stage = Running; harts = a.table.now.table.shared.key.harts }

abbrev pub ghosts-put_opaque : goal.ghosts-put_opaque
ghosts-put_opaque a = record { by = a.by; target = a.target; address = a.address; opaque = a.opaque; beside = []; stage = Running; harts = a.table.now.table.shared.key.harts }

abbrev pub ghosts-arm : goal.ghosts-arm
ghosts-arm a = record { by = a.by; target = a.target; address = a.address; opaque = a.opaque; beside = []; stage = Running; harts = a.table.now.table.shared.key.harts }
