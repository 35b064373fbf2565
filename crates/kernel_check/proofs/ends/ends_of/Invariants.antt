use Rattle.std.proofs.Common.{◌≡◌}
use Rattle.kernel_check.proofs.ends.ends_of.Given as goal

abbrev pub invariant-loop-row : goal.invariant-loop-row
invariant-loop-row l = l.explored ≡ l.initial.explored
