use Rattle.std.proofs.Common.{map}
use Rattle.disk.specs.Facts.{Joined}
use Rattle.simdisk.specs.Lanes.{lane_view_of}
use Rattle.simdisk.proofs.lending.lay_row.Given as goal

abbrev pub invariant-loop-i : goal.invariant-loop-i
invariant-loop-i l = Joined (record { first = l.first; lanes = l.i; each = l.each }) (map (lane_view_of l.bytes) l.lanes) l.initial.content.items l.content.items
