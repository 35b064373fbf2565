use Rattle.std.proofs.Common.{ℕ, subst}
use Rattle.board_files.{specs.{Blocks.{HoldsSectors, known_in}, Files.Goes}, proofs.InBlocks.lies_in}
use Rattle.board_files.proofs.block_device.SectorsInBlocks.into_device.Goals as goal

pub returns : goal.returns
returns g c =
    let file = g.D.BlockDevice.device_facts c.args.self.device in
    let n = c.args.self.size.bytes in
    subst (λ (k : ℕ). Goes file (known_in n file) (HoldsSectors k)) c.args.self.fits (lies_in n file)
