-- The limits of the numbers of the command line. Source: docs/DEBUGGING.md, "Options and statuses".
use Rattle.std.specs.Prelude.{ℕ, ◌≤◌, ⊤}
use Rattle.sbigdb.specs.declared.given.Begin.{Begin}
use Rattle.sbigdb.specs.declared.given.Begin.TheVariants.{Cut, End, Failure, Schedule}

abbrev pub IsUpTo : ℕ → ℕ → Type 0
IsUpTo most n = (1 ≤ n) × (n ≤ most)

-- schedules and rows have numbers from 1 on
abbrev pub IsBounded : Begin → Type 0
IsBounded End = ⊤
IsBounded (Schedule drawn) = IsUpTo 1000000 drawn.number
IsBounded (Cut number) = IsUpTo 1000000 number
IsBounded (Failure number) = IsUpTo 1000000 number
