use Rattle.std.proofs.Common.{ℕ, subst}
use Rattle.board_files.{specs.{Blocks.{HoldsSectors, known_in}, Files.Goes}, proofs.InBlocks.lies_in}
use Rattle.board_files.proofs.block_device.SectorsInBlocks.new.Goals as goal

pub returns : goal.returns
returns g c =
    let file = g.D.BlockDevice.device_facts c.args.device in
    let n = c.block_size-size.result.bytes in
    subst (λ (k : ℕ). Goes file (known_in n file) (HoldsSectors k)) c.block_size-size.ensures (lies_in n file)
