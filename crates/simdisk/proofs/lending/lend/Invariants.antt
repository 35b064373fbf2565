use Rattle.std.proofs.Common.{map}
use Rattle.disk.specs.Facts.{Handed}
use Rattle.simdisk.specs.{Lanes.{lane_view, lane_state}, LaneStates.AreLent}
use Rattle.simdisk.proofs.lending.lend.Given as goal

abbrev pub invariant-loop-lane : goal.invariant-loop-lane
invariant-loop-lane l = record {
  handed : Handed (record { first = l.first; lanes = l.lane; each = l.each }) l.content (map lane_view l.out.items);
  lent : AreLent (record { first = l.first; lanes = l.lane; each = l.each }) l.newest l.faults.armed l.faults.cut (map lane_state l.out.items);
}
