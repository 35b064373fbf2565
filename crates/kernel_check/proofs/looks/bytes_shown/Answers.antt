use Rattle.std.proofs.{Common.arith, lemmas.Grind.common_steps}
use Rattle.kernel_check.proofs.Looking.{looked_more}
use Rattle.kernel_check.proofs.looks.bytes_shown.Goals as goal

pub loop-look-preserved : goal.loop-look-preserved
loop-look-preserved c =
    let more = looked_more c.args.looks.now c.args.memory.now c.loop-look.look-index c.look-item.result (omega arith) c.look-item.is in
    grind (arith, common_steps, more, c.in_ok-extend_from_slice.ensures.items)
