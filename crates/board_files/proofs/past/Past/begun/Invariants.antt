use Rattle.std.proofs.Common.{[]}
use Rattle.disk.specs.WriteLog.{new_log}
use Rattle.board_files.proofs.past.Past.begun.Given as goal

abbrev pub ghost-picked : goal.ghost-picked
ghost-picked a = new_log []
