use Rattle.std.proofs.{Common.{arith, ap}, lemmas.Grind.common_steps}
use Rattle.simdisk.{specs.Views.pieces, proofs.Parted.parts_more}
use Rattle.simdisk.proofs.poked.parts_of.Goals as goal

pub loop-patch-preserved : goal.loop-patch-preserved
loop-patch-preserved c =
    parts_more c.args.sector c.args.patches.now c.loop-patch.patch-index c.patch-item.result (pieces c.loop-patch.out.items) (pieces c.push_parts.new.out.items) c.loop-patch-test.true c.patch-item.is c.loop-patch.invariant c.in_ok-push_parts.ensures

pub loop-patch-init : goal.loop-patch-init
loop-patch-init c = ap pieces c.new-out.ensures.items

pub push_parts-requires : goal.push_parts-requires
push_parts-requires c = c.requires

pub returns : goal.returns
returns c = grind (arith, common_steps)
