use Rattle.std.proofs.Common.{[]}
use Rattle.simdisk.proofs.remembered.Remembered.again.Given as goal

abbrev pub ghost-with_parts : goal.ghost-with_parts
ghost-with_parts a = (a._values.now.log, [], a._values.now.armings, [])
