use Rattle.std.proofs.Common.{◌≡◌, drop, length, map}
use Rattle.disk.specs.WriteLog.{replay, filled}
use Rattle.simdisk.specs.Views.{pieces}
use Rattle.simdisk.proofs.laid.fill_patches.Given as goal

abbrev pub invariant-loop-patch : goal.invariant-loop-patch
invariant-loop-patch l = record {
  rest : replay (drop l.patch-index (map (filled l.bytes) (pieces l.patches))) l.content.items ≡ replay (map (filled l.bytes) (pieces l.patches)) l.initial.content.items;
  as_long : length l.content.items ≡ length l.initial.content.items;
}
