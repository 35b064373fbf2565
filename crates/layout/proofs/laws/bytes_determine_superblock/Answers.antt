use Rattle.layout.proofs.Spellings.{one_size, superblock_has_magic, zeros_have_no_magic}
use Rattle.layout.proofs.laws.bytes_determine_superblock.Goals as goal

pub returns-clause-one : goal.returns-clause-one
returns-clause-one c = one_size

pub returns-clause-marked : goal.returns-clause-marked
returns-clause-marked c = superblock_has_magic

pub returns-clause-blank : goal.returns-clause-blank
returns-clause-blank c = zeros_have_no_magic
