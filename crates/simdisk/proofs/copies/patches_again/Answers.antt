use Rattle.std.proofs.{Common.arith, lemmas.Grind.common_steps}
use Rattle.simdisk.proofs.copies.patches_again.Goals as goal

pub loop-patch-preserved : goal.loop-patch-preserved
loop-patch-preserved c = grind (arith, common_steps)

pub returns : goal.returns
returns c = grind (arith, common_steps)
