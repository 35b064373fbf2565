use Rattle.std.proofs.Common.{◌≡◌, All}
use Rattle.kernel_check.specs.Failures.{CanFail}
use Rattle.kernel_check.proofs.judged.failures_of.Given as goal

abbrev pub invariant-loop-place : goal.invariant-loop-place
invariant-loop-place l = record {
  come : All (λ f. CanFail f.kind l.explored.asked l.looks) l.failures.items;
  same : l.explored ≡ l.initial.explored;
}
