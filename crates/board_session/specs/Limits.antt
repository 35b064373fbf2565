-- The limits of the numbers of the command line. Source: docs/CONSOLE.md, "The command line".
use Rattle.std.specs.Prelude.{ℕ, ◌≤◌}

-- how many turns a hart makes at most
abbrev pub AreTurns : ℕ → Type 0
AreTurns turns = (1 ≤ turns) × (turns ≤ 1000000000)
