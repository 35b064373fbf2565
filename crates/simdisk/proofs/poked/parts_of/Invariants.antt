use Rattle.std.{proofs.Common.{◌≡◌, take}, specs.List.flat_map}
use Rattle.simdisk.specs.{Pokes.parted, Views.pieces}
use Rattle.simdisk.proofs.poked.parts_of.Given as goal

abbrev pub invariant-loop-patch : goal.invariant-loop-patch
invariant-loop-patch l = pieces l.out.items ≡ flat_map (parted l.sector) (take l.patch-index (pieces l.patches))
