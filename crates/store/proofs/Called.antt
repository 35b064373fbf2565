-- Calls of a disk under other answers, and of which less is told.
use Rattle.std.proofs.Common.{◌+◌, ◌≤◌, ℕ, Result, Ok, Err, arith}
use Rattle.disk.specs.{Calls.MakesCalls, Facts.{Content, Facts, Torn, Counts, most}, FaultState.FaultState, Moments.passes_weaker}
use Rattle.store.{specs.Commits.SameAreas, proofs.Contents.torn_areas}

-- no failure is forgotten
pub counts_up : {T E : Type 0} (r : Result T E) (before now : ℕ) → before ≤ most → Counts before now r → before ≤ now
counts_up (Ok v) before now few counts = omega (arith, counts.ok)
counts_up (Err e) before now few counts = omega (arith, few, counts.err)

-- another value was answered
pub called_with : {T E U F : Type 0} (n : ℕ) (step : Content → Content → Type 0) (a b : Facts) (x y : FaultState) (v : T) (w : U) → MakesCalls {T = T} {E = E} n step a b x y (Ok v)
    → MakesCalls {T = U} {E = F} n step a b x y (Ok w)
called_with n step a b x y v w p = record {
  content = p.content;
  crash = p.crash;
  lent = p.lent;
  calls = record { ok = p.calls.ok; err = tt };
  failures = record { ok = p.failures.ok; err = tt };
  cause = record { ok = p.cause.ok; err = tt };
  gone = p.gone;
}

-- a sector before the areas was written
pub called_apart : {T E : Type 0} (n first : ℕ) (a b : Facts) (x y : FaultState) (r : Result T E) → first + 1 ≤ 8 → MakesCalls n (Torn first 1) a b x y r → MakesCalls n SameAreas a b x y r
called_apart n first a b x y r fits p = record {
  content = torn_areas first 1 a.content b.content fits p.content;
  crash = passes_weaker a b (Torn first 1) SameAreas p.crash (λ c d torn. torn_areas first 1 c d fits torn);
  lent = p.lent;
  calls = p.calls;
  failures = p.failures;
  cause = p.cause;
  gone = p.gone;
}
