use Rattle.std.proofs.Common.{ℕ, ◌<◌, MatchOption}
use Rattle.elf_image.specs.Symbols.{IsAtOrBelow, IsNearest}
use Rattle.elf_image.proofs.labels.nearest.Given as goal

abbrev pub invariant-loop-k : goal.invariant-loop-k
invariant-loop-k l =
    MatchOption l.best
    ((j : ℕ) → j < l.k → IsAtOrBelow l.named l.tables.symbols.now l.tables.names.now l.address j → ⊥)
    (IsNearest l.named l.tables.symbols.now l.tables.names.now l.address l.k)
