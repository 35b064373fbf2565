use Rattle.std.proofs.Common.{[]}
use Rattle.hsm.specs.declared.view.Stage.TheVariants.{Running}
use Rattle.hsm.proofs.standings.find_alone.Given as goal

abbrev pub ghosts-peek : goal.ghosts-peek
ghosts-peek a = record { by = 0; target = 0; address = 0; opaque = 0; beside = []; stage = Running; harts = a.table.now.table.shared.key.harts }
