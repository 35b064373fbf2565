use Rattle.std.proofs.Common.{ℕ, ◌<◌}
use Rattle.elf_image.specs.Program.{Loads}
use Rattle.elf_image.proofs.program.loads_any.Given as goal

abbrev pub invariant-loop-k : goal.invariant-loop-k
invariant-loop-k l = (j : ℕ) → j < l.k → Loads l.bytes j → ⊥
