-- Calls of a disk one after another, told of a disk of which nothing is lent.
use Rattle.std.proofs.Common.{◌∙◌, ◌+◌, ◌≤◌, ℕ, Result, Ok, Err, sym, subst, arith}
use Rattle.disk.specs.{Calls.MakesCalls, Facts.{Content, Facts, Stays}, FaultState.{FaultState, Cause}}
use Rattle.disk.specs.Moments.{passes_stays, called_fewer}

-- a call that changes nothing comes after some that went well
pub called_stays : {T E U F : Type 0} (n k : ℕ) (step : Content → Content → Type 0) (a b c : Facts) (x y z : FaultState) (v : T) (r : Result U F)
    → MakesCalls {T = T} {E = E} n step a b x y (Ok v) → MakesCalls {T = U} {E = F} k Stays b c y z r → MakesCalls {T = U} {E = F} (n + k) step a c x z r
called_stays n k step a b c x y z v (Ok w) p q = record {
  content = subst (step a.content) (sym q.content) p.content;
  crash = passes_stays a b c step p.crash q.crash;
  lent = q.lent ∙ p.lent;
  calls = record { ok = omega (arith, p.calls.ok, q.calls.ok); err = tt };
  failures = record { ok = q.failures.ok ∙ p.failures.ok; err = tt };
  cause = record { ok = q.cause.ok ∙ p.cause.ok; err = tt };
  gone = p.gone;
}
called_stays n k step a b c x y z v (Err f) p q = record {
  content = subst (step a.content) (sym q.content) p.content;
  crash = passes_stays a b c step p.crash q.crash;
  lent = q.lent ∙ p.lent;
  calls = record { ok = tt; err = (omega (arith, p.calls.ok, q.calls.err.0), omega (arith, p.calls.ok, q.calls.err.1)) };
  failures = record { ok = tt; err = rw (← p.failures.ok) q.failures.err };
  cause = record { ok = tt; err = subst (λ (w : FaultState). Cause w z) p.cause.ok q.cause.err };
  gone = tt;
}

-- the same answer of another type
pub called_ok : {T E U F : Type 0} (n : ℕ) (step : Content → Content → Type 0) (a b : Facts) (x y : FaultState) (v : T) (w : U) → MakesCalls {T = T} {E = E} n step a b x y (Ok v)
    → MakesCalls {T = U} {E = F} n step a b x y (Ok w)
called_ok n step a b x y v w p = record {
  content = p.content;
  crash = p.crash;
  lent = p.lent;
  calls = record { ok = p.calls.ok; err = tt };
  failures = record { ok = p.failures.ok; err = tt };
  cause = record { ok = p.cause.ok; err = tt };
  gone = p.gone;
}

-- a call failed, where more would have come
pub stopped : {T E : Type 0} (n k : ℕ) (step : Content → Content → Type 0) (a b : Facts) (x y : FaultState) (e : E) → n ≤ k → MakesCalls {T = T} {E = E} n step a b x y (Err e)
    → MakesCalls {T = Unit {0}} {E = Unit {0}} k step a b x y (Err (tt {0}))
stopped {T} {E} n k step a b x y e le p = called_fewer {T = T} {E = E} {U = Unit {0}} {F = Unit {0}} n k step a b x y e (tt {0}) le p
