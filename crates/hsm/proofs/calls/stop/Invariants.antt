use Rattle.std.proofs.Common.{[]}
use Rattle.hsm.specs.declared.view.Stage.TheVariants.{Running}
use Rattle.hsm.proofs.calls.stop.Given as goal

abbrev pub ghosts-stop : goal.ghosts-stop
ghosts-stop a = record { by = a.by; target = 0; address = 0; opaque = 0; beside = []; stage = Running; harts = a.table.now.table.shared.key.harts }
