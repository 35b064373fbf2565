use Rattle.std.proofs.Common.{◌≤◌, ◌+◌, length, take}
use Rattle.disk.specs.{Facts.{Content, AreSectorsAt}, WriteLog.{ranges, AreWithin}}
use Rattle.simdisk.specs.Cached.{pieces_of, shown}
use Rattle.simdisk.proofs.waiting.lay_over.Given as goal

abbrev pub invariant-loop-wait : goal.invariant-loop-wait
invariant-loop-wait l =
    (held : Content) → l.first + length l.initial.sectors ≤ length held → AreWithin (length held) (ranges (pieces_of l.waiting)) → AreSectorsAt l.first held l.initial.sectors
    → AreSectorsAt l.first (shown (take l.wait-index l.waiting) held) l.sectors
