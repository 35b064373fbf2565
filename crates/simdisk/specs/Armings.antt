-- What faults are to a contract.
use Rattle.std.specs.Prelude.{◌≡◌, ◌⊎◌, ℕ, ◌-◌, Bool, List, Option, Some, None, true, false}
use Rattle.disk.specs.declared.device.ArmedFault.{ArmedFault}
use Rattle.disk.specs.declared.device.ArmedFault.TheVariants.{FailAt, CutAt, FailLane, CutLane}
use Rattle.disk.specs.FaultState.{Armed, Unarmed, FaultArmed, CutArmed, FaultState, armed_by}
use Rattle.simdisk.specs.declared.faults.Faults.{Faults}

abbrev pub arming : Option ArmedFault → Armed
arming None = Unarmed
arming (Some fault) = armed_by fault

abbrev pub fault_state_by : Faults → ℕ → List ArmedFault → FaultState
fault_state_by faults own armings =
    record { armed = arming faults.armed; struck = faults.cut; own = own; armings = armings }

-- what was armed struck, or power was cut before
abbrev pub Strikes : Faults → Faults → Type 0
Strikes old new =
    ((arming old.armed ≡ FaultArmed) × (arming new.armed ≡ Unarmed) × (new.cut ≡ old.cut))
    ⊎ ((arming old.armed ≡ CutArmed) × (arming new.armed ≡ Unarmed) × (new.cut ≡ true))
    ⊎ ((old.cut ≡ true) × (new ≡ old))

-- what is armed stays so
abbrev pub Waits : Faults → Faults → Type 0
Waits old new = (arming new.armed ≡ arming old.armed) × (new.cut ≡ old.cut)

-- what is armed strikes at the next call of the disk
abbrev pub IsDue : Option ArmedFault → Type 0
IsDue None = ⊥
IsDue (Some (FailAt n)) = n ≡ 1
IsDue (Some (CutAt n)) = n ≡ 1
IsDue (Some (FailLane lane n)) = ⊥
IsDue (Some (CutLane lane n)) = ⊥

-- the next call of the disk fails: power was cut, or what is armed strikes at it
abbrev pub FailsNext : Bool → Option ArmedFault → Type 0
FailsNext cut armed = (cut ≡ true) ⊎ IsDue armed

-- what is armed after a call of the disk at which it did not strike
abbrev pub one_call_on : Option ArmedFault → Option ArmedFault
one_call_on None = None
one_call_on (Some (FailAt n)) = Some (FailAt (n - 1))
one_call_on (Some (CutAt n)) = Some (CutAt (n - 1))
one_call_on (Some (FailLane lane n)) = Some (FailLane lane n)
one_call_on (Some (CutLane lane n)) = Some (CutLane lane n)

-- what is armed is a cut
abbrev pub cuts : Option ArmedFault → Bool
cuts None = false
cuts (Some (FailAt n)) = false
cuts (Some (CutAt n)) = true
cuts (Some (FailLane lane n)) = false
cuts (Some (CutLane lane n)) = true

-- Power and what is armed after a call that failed by them: where power was cut before all stays, and else
-- what was armed is gone, and took the power where it was a cut.
abbrev pub Struck : Bool → Option ArmedFault → Bool → Option ArmedFault → Type 0
Struck true armed cut' armed' = (cut' ≡ true) × (armed' ≡ armed)
Struck false armed cut' armed' = (cut' ≡ cuts armed) × (armed' ≡ None)
