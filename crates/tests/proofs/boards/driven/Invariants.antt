use Rattle.std.proofs.Common.{[], true}
use Rattle.store.specs.Views.{disk_of, failures_at_open, found_state}
use Rattle.tallies.specs.BookViews.{id_of, parts_of}
use Rattle.machine.specs.Held.{board_of}
use Rattle.tests.proofs.boards.driven.Given as goal

-- the life that the board has just begun
abbrev pub ghosts-driven_as-J-Journal : goal.ghosts-driven_as-J-Journal
ghosts-driven_as-J-Journal g a = record { found = found_state a.parts.store; size = a.shape.now; issued = []; memory = a.parts.bus.ram; book = id_of a.marks.0.commands; parts = parts_of a.marks.0.commands; failures = failures_at_open a.parts.store; doubts = id_of a.marks.0.doubts; runs = id_of a.marks.0.runs; moment = (disk_of a.parts.store).moment; earlier = (disk_of a.parts.store).since }

-- and its harts, which the gate may end
abbrev pub ghosts-driven_as-J-Threaded : goal.ghosts-driven_as-J-Threaded
ghosts-driven_as-J-Threaded g a = record { turns = a.trial.turns; parting = a.marks.1.0.id; halt = a.marks.1.1.0.0; over = a.marks.1.1.1.0; gated = true; machine = board_of a.shape.now a.parts.bus.ram a.parts.bus.doze a.parts.harts.items a.parts.seats; starts = a.parts.tables.harts.table.shared.table_id; raises = a.parts.tables.pending.table.shared.table_id }
