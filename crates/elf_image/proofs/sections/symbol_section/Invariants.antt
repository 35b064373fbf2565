use Rattle.std.proofs.Common.{◌≡◌, ℕ, ◌<◌}
use Rattle.elf_image.specs.Sections.{section_at}
use Rattle.elf_image.proofs.sections.symbol_section.Given as goal

abbrev pub invariant-loop-k : goal.invariant-loop-k
invariant-loop-k l = (j : ℕ) → j < l.k → (section_at l.bytes j).kind ≡ 2 → ⊥
