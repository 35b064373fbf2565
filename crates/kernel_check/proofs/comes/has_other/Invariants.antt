use Rattle.std.proofs.Common.{◌≡◌}
use Rattle.kernel_check.proofs.comes.has_other.Given as goal

abbrev pub invariant-loop-kind : goal.invariant-loop-kind
invariant-loop-kind l = l.explored ≡ l.initial.explored
