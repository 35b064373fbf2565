use Rattle.std.proofs.Common.{◌≡◌, length, take, replicate}
use Rattle.simdisk.proofs.laid.fill_all.Given as goal

abbrev pub invariant-loop-sector : goal.invariant-loop-sector
invariant-loop-sector l = record {
  length : length l.sectors ≡ length l.initial.sectors;
  filled : take l.sector-index l.sectors ≡ replicate l.sector-index l.bytes;
}
