use Rattle.std.proofs.Common.{◌≡◌, arith}
use Rattle.layout.{specs.Superblocks.superblock_of, proofs.Spellings.filled_superblock}
use Rattle.layout.proofs.superblocks.superblock_bytes.Goals as goal

pub returns : goal.returns
returns c =
    let bytes : c.finish.result ≡ superblock_of c.args.shape.now = let filled = filled_superblock c.args.shape.now in cc in
    ((omega arith, omega arith, omega arith, omega arith, omega arith, omega arith), bytes)
