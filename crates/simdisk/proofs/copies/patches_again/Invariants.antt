use Rattle.std.proofs.Common.{◌≡◌, take}
use Rattle.simdisk.specs.Views.{pieces}
use Rattle.simdisk.proofs.copies.patches_again.Given as goal

abbrev pub invariant-loop-patch : goal.invariant-loop-patch
invariant-loop-patch l = pieces l.copies.items ≡ pieces (take l.patch-index l.patches)
