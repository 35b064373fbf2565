use Rattle.std.proofs.Common.{ℕ, ◌<◌}
use Rattle.elf_image.specs.Program.{IsInFile, Loads, segment_at}
use Rattle.elf_image.proofs.program.check_bytes.Given as goal

abbrev pub invariant-loop-k : goal.invariant-loop-k
invariant-loop-k l = (j : ℕ) → j < l.k → Loads l.bytes j → IsInFile l.bytes (segment_at l.bytes j)
