-- Why a call of the disk failed, by what was armed.
use Rattle.std.proofs.Common.{◌≡◌, ◌≤◌, ⊎_elim, inl, inr, refl, ℕ, List, Bool, true, false, ap, arith}
use Rattle.disk.specs.{declared.device.ArmedFault.ArmedFault, Facts.counted, FaultState.Cause}
use Rattle.simdisk.specs.{declared.faults.Faults.Faults, Armings.{Strikes, Waits, fault_state_by}}

-- what was armed struck
pub strikes_cause : (old new : Faults) (own : ℕ) (arms : List ArmedFault) → Strikes old new → Cause (fault_state_by old own arms) (fault_state_by new own arms)
strikes_cause old new own arms strikes = ⊎_elim
    (λ fault. inr (inl (fault.0, rw (fault.1, fault.2) refl)))
    (λ rest. ⊎_elim
    (λ cut. inr (inr (inl (cut.0, rw (cut.1, cut.2) refl))))
    (λ dark. inr (inr (inr (dark.0, ap (λ (f : Faults). fault_state_by f own arms) dark.1))))
    rest)
    strikes

-- it did not strike
pub waits_same : (old new : Faults) (own : ℕ) (arms : List ArmedFault) → Waits old new → fault_state_by new own arms ≡ fault_state_by old own arms
waits_same old new own arms waits = rw (waits.0, waits.1) refl

-- power that was not cut
pub runs : (cut : Bool) → (cut ≡ true → ⊥) → cut ≡ false
runs true dark = absurd (dark refl)
runs false dark = refl

-- one call that failed
pub called_once : (before now : ℕ) → now ≡ counted before 1 → (counted before 1 ≤ now) × (now ≤ counted before 1)
called_once before now is = (omega (arith, is), omega (arith, is))
