-- A call of a disk is one of the disk with a file beside it.
use Rattle.std.proofs.Common.{◌≡◌, ◌∙◌, ℕ, ap, arith, inl, inr, refl, ⊎_elim, Result, Ok, Err}
use Rattle.disk.specs.{Calls.MakesCalls, Facts.{Content, Facts, Passes, Stays, counted}, FaultState.{FaultState, Cause}}
use Rattle.disk.specs.Moments.{passes_none}
use Rattle.board_files.specs.Beside.{facts_beside, faults_beside}

counted_swaps : (n a b : ℕ) → counted (counted n a) b ≡ counted (counted n b) a
counted_swaps n a b = omega arith

passes_beside : (failed : ℕ) (old new : Facts) (step : Content → Content → Type 0) → Passes old new step
    → Passes (facts_beside failed old) (facts_beside failed new) step
passes_beside failed old new step p =
    record { later = p.later; now = p.now; nothing_else = p.nothing_else; keeps = p.keeps }

cause_beside : (failed : ℕ) (was is : FaultState) → Cause was is → Cause (faults_beside failed was) (faults_beside failed is)
cause_beside failed was is cause =
    ⊎_elim
    (λ own. inl (ap (faults_beside failed) own
    ∙ ap (λ (n : ℕ). record was { own = n }) (counted_swaps was.own 1 failed)))
    (λ other. inr (⊎_elim
    (λ fault. inl (fault.0, ap (faults_beside failed) fault.1))
    (λ more. inr (⊎_elim
    (λ cut. inl (cut.0, ap (faults_beside failed) cut.1))
    (λ gone. inr (gone.0, ap (faults_beside failed) gone.1))
    more))
    other))
    cause

pub call_beside : {T E : Type 0} (failed : ℕ) (step : Content → Content → Type 0) (old new : Facts) (was is : FaultState)
    (result : Result T E) → MakesCalls 1 step old new was is result
    → MakesCalls 1 step (facts_beside failed old) (facts_beside failed new) (faults_beside failed was)
    (faults_beside failed is) result
call_beside failed step old new was is (Ok v) m = record {
  content = m.content;
  crash = passes_beside failed old new step m.crash;
  lent = m.lent;
  calls = record { ok = omega (arith, m.calls.ok); err = tt };
  failures = record { ok = ap (λ (n : ℕ). counted n failed) m.failures.ok; err = tt };
  cause = record { ok = ap (faults_beside failed) m.cause.ok; err = tt };
  gone = m.gone;
}
call_beside failed step old new was is (Err e) m = record {
  content = m.content;
  crash = passes_beside failed old new step m.crash;
  lent = m.lent;
  calls = record { ok = tt; err = (omega (arith, m.calls.err.0), omega (arith, m.calls.err.1)) };
  failures = record { ok = tt; err = omega (arith, m.failures.err) };
  cause = record { ok = tt; err = cause_beside failed was is m.cause.err };
  gone = m.gone;
}

-- the file failed, and the disk was not called
pub file_failed : {T E : Type 0} (failed : ℕ) (disk : Facts) (is : FaultState) (e : E)
    → MakesCalls {T = T} 1 Stays (facts_beside failed disk) (facts_beside (counted failed 1) disk) (faults_beside failed is)
    (faults_beside (counted failed 1) is) (Err e)
file_failed failed disk is e = record {
  content = refl;
  crash = record { later = omega arith; now = (passes_none disk).now; nothing_else = (passes_none disk).nothing_else; keeps = (passes_none disk).keeps };
  lent = refl;
  calls = record { ok = tt; err = (omega arith, omega arith) };
  failures = record { ok = tt; err = omega arith };
  cause = record { ok = tt; err = inl (ap (λ (n : ℕ). record is { own = n }) (omega arith)) };
  gone = tt;
}
