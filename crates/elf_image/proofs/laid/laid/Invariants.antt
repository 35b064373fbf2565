use Rattle.elf_image.specs.Loading.{IsLoadedTo}
use Rattle.elf_image.proofs.laid.laid.Given as goal

abbrev pub invariant-loop-k : goal.invariant-loop-k
invariant-loop-k l = IsLoadedTo l.bytes l.k l.memory.items
