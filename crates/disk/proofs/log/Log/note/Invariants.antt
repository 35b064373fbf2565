use Rattle.disk.specs.WriteLog.{more_written}
use Rattle.disk.proofs.log.Log.note.Given as goal

abbrev pub ghost-picked : goal.ghost-picked
ghost-picked a = let passed = a._values.now in more_written (passed.1, passed.2.now) passed.0.now.log
