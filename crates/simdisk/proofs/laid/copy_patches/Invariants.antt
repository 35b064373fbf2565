use Rattle.std.proofs.Common.{◌≡◌, drop, length, map}
use Rattle.disk.specs.WriteLog.{replay, piece_in}
use Rattle.simdisk.specs.Views.{pieces}
use Rattle.simdisk.proofs.laid.copy_patches.Given as goal

abbrev pub invariant-loop-patch : goal.invariant-loop-patch
invariant-loop-patch l = record {
  rest : replay (drop l.patch-index (map (piece_in l.content) (pieces l.patches))) l.stood.items ≡ replay (map (piece_in l.content) (pieces l.patches)) l.initial.stood.items;
  as_long : length l.stood.items ≡ length l.initial.stood.items;
}
