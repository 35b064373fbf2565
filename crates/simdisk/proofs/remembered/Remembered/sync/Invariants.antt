use Rattle.std.proofs.Common.{◌++◌}
use Rattle.simdisk.proofs.remembered.Remembered.sync.Given as goal

abbrev pub ghost-picked : goal.ghost-picked
ghost-picked a = let passed = a._values.now in record passed.0.now.log { past = passed.0.now.log.past ++ passed.1.now.log.past }
