use Rattle.std.proofs.Common.{◌≡◌, map, take}
use Rattle.disk.specs.Facts.{counted, lane_failures}
use Rattle.simdisk.specs.Lanes.{lane_view}
use Rattle.simdisk.proofs.lending.failures_of.Given as goal

abbrev pub invariant-loop-lane : goal.invariant-loop-lane
invariant-loop-lane l = l.failures ≡ counted 0 (lane_failures (take l.lane-index (map lane_view l.lanes)))
