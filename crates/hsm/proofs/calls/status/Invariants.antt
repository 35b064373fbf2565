use Rattle.std.proofs.Common.{[]}
use Rattle.hsm.specs.Calls.{stage_of}
use Rattle.hsm.proofs.calls.status.Given as goal

abbrev pub ghosts-look : goal.ghosts-look
ghosts-look a = record { by = a.by; target = 0; address = 0; opaque = 0; beside = []; stage = stage_of a.by a.seat.now.me.0.harts; harts = a.table.now.table.shared.key.harts }
