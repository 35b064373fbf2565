use Rattle.std.proofs.Common.{length}
use Rattle.simdisk.proofs.lending.+as_read.Given as goal

abbrev pub decreases-as_read : goal.decreases-as_read
decreases-as_read l = length l.lanes.now
