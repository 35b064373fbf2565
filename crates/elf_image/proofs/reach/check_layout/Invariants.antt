use Rattle.std.{proofs.Common.{◌≡◌, ℕ, ◌<◌, ◌≤◌, ◌+◌}, specs.Prelude.{◌⊎◌}}
use Rattle.elf_image.specs.Program.{Loads, FitsRam, IsAfterAll, segment_at, ram_base}
use Rattle.elf_image.proofs.reach.check_layout.Given as goal

abbrev pub invariant-loop-k : goal.invariant-loop-k
invariant-loop-k l =
    ((j : ℕ) → j < l.k → Loads l.bytes j → FitsRam l.ram (segment_at l.bytes j))
    × ((j : ℕ) → j < l.k → Loads l.bytes j → IsAfterAll l.bytes j)
    × ((j : ℕ) → j < l.k → Loads l.bytes j → (segment_at l.bytes j).loaded_at + (segment_at l.bytes j).memory_bytes ≤ l.end)
    × ((l.end ≡ ram_base) ⊎ ((j : ℕ) × (j < l.k) × Loads l.bytes j × ((segment_at l.bytes j).loaded_at + (segment_at l.bytes j).memory_bytes ≡ l.end)))
