use Rattle.std.proofs.Common.{take, drop}
use Rattle.disk.specs.WriteLog.{new_log}
use Rattle.simdisk.proofs.remembered.Remembered.part.Given as goal

abbrev pub ghost-picked : goal.ghost-picked
ghost-picked a = let passed = a._values.now in new_log (take passed.2 (drop passed.1 passed.0.now.kept.log.began))
