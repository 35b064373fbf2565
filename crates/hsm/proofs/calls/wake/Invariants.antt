use Rattle.std.proofs.Common.{[]}
use Rattle.hsm.specs.declared.view.Stage.TheVariants.{Running}
use Rattle.hsm.proofs.calls.wake.Given as goal

abbrev pub ghosts-wake : goal.ghosts-wake
ghosts-wake a = record { by = a.by; target = 0; address = 0; opaque = 0; beside = []; stage = Running; harts = a.table.now.table.shared.key.harts }
