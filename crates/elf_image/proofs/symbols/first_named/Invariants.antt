use Rattle.std.proofs.Common.{ℕ, ◌<◌}
use Rattle.elf_image.specs.Symbols.{HasName, entry_at}
use Rattle.elf_image.proofs.symbols.first_named.Given as goal

abbrev pub invariant-loop-k : goal.invariant-loop-k
invariant-loop-k l = (j : ℕ) → j < l.k → HasName l.tables.names.now l.name (entry_at l.tables.symbols.now j) → ⊥
