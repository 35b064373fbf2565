-- How a search ends.
use Rattle.std.specs.Prelude.{◌≡◌, ℕ, ◌<◌}
use Rattle.state_space.specs.declared.limits.Verdict.{Verdict}
use Rattle.state_space.specs.declared.limits.Verdict.TheVariants.{Closed, AtRows, AtBytes, Halted}

-- closed is said where all rows are expanded; any other verdict where one is left
abbrev pub IsVerdict : Verdict → ℕ → ℕ → Type 0
IsVerdict Closed expanded count = expanded ≡ count
IsVerdict AtRows expanded count = expanded < count
IsVerdict AtBytes expanded count = expanded < count
IsVerdict Halted expanded count = expanded < count
