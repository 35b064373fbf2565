use Rattle.layout.proofs.Spellings.{superblock_has_magic}
use Rattle.layout.proofs.superblocks.parse_superblock.Goals as goal

pub returns-then-not-has_magic-clause-exact : goal.returns-then-not-has_magic-clause-exact
returns-then-not-has_magic-clause-exact c size is fits = let found = c.has_magic.ensures.1 (superblock_has_magic size c.args.sector.now is) in
    let not = c.if-not-has_magic.true in
    cc
