use Rattle.std.proofs.Common.{false}
use Rattle.store.specs.Views.{disk_of, failures_at_open, found_state, journal_of, size_of_store}
use Rattle.tallies.specs.BookViews.{id_of, parts_of}
use Rattle.machine.specs.Held.{board_of}
use Rattle.board_session.proofs.sessions.session.Given as goal

-- the life that the board has just begun
abbrev pub ghosts-run_board-J-Journal : goal.ghosts-run_board-J-Journal
ghosts-run_board-J-Journal g a = record { found = found_state a.store; size = size_of_store a.store; issued = journal_of a.store; memory = a.hardware.bus.ram; book = id_of a.provisions.book; parts = parts_of a.provisions.book; failures = failures_at_open a.store; doubts = id_of a.provisions.doubts; runs = id_of a.provisions.runs; moment = (disk_of a.store).moment; earlier = (disk_of a.store).since }

-- and its harts, which no gate may end
abbrev pub ghosts-run_board-J-Threaded : goal.ghosts-run_board-J-Threaded
ghosts-run_board-J-Threaded g a = record { turns = a.on.turns; parting = a.provisions.lock.id; halt = a.provisions.halt; over = a.provisions.over; gated = false; machine = board_of a.hardware.shape a.hardware.bus.ram a.on.doze a.on.harts.items a.on.seats; starts = a.hardware.tables.harts.table.shared.table_id; raises = a.hardware.tables.pending.table.shared.table_id }
