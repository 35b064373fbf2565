-- What calls of a disk do beside their answers, said once: for each call of it, and for whatever makes some.
use Rattle.std.specs.Prelude.{◌≡◌, ℕ, ◌≤◌, false, Result, OnOk, OnErr}
use Rattle.disk.specs.Facts.{Content, Facts, Passes, Counts, counted}
use Rattle.disk.specs.FaultState.{FaultState, Caused}

-- with Ok they were so many calls, and with an error one at least and no more than that
pub record CountsCalls {T E : Type 0} (n before now : ℕ) (result : Result T E) : Type 0 where
  pub ok : OnOk result (now ≡ counted before n)
  pub err : OnErr result ((counted before 1 ≤ now) × (now ≤ counted before n))

-- So many calls were made of a disk; with an error the last of them failed, and no other did. Each of them
-- goes by that step.
pub record MakesCalls {T E : Type 0} (n : ℕ) (step : Content → Content → Type 0) (old new : Facts) (was is : FaultState)
    (result : Result T E) : Type 0 where
  -- what a read gives
  pub content : step old.content new.content
  -- what a crash leaves, at each moment of them
  pub crash : Passes old new step
  -- nothing is lent or taken back
  pub lent : new.lent ≡ old.lent
  pub calls : CountsCalls n old.calls new.calls result
  pub failures : Counts old.failures new.failures result
  pub cause : Caused was is result
  -- once an armed cut has struck, no call answers Ok
  pub gone : OnOk result (was.struck ≡ false)

-- No call was made: neither the counts nor what is armed have changed.
pub record NoCall (old new : Facts) (was is : FaultState) : Type 0 where
  pub failures : new.failures ≡ old.failures
  pub calls : new.calls ≡ old.calls
  pub cause : is ≡ was
