use Rattle.disk.specs.WriteLog.{new_log}
use Rattle.simdisk.proofs.remembered.Remembered.of.Given as goal

abbrev pub ghost-picked : goal.ghost-picked
ghost-picked a = new_log a._values.now.now
