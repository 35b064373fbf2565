-- Why a disk failed: a fault that was armed struck, or it failed by itself.
use Rattle.std.specs.Prelude.{◌≡◌, ◌⊎◌, ℕ, ◌<◌, Bool, true, false, List, [], ◌∷◌, Result, OnOk, OnErr}
use Rattle.disk.specs.declared.device.ArmedFault.{ArmedFault}
use Rattle.disk.specs.declared.device.ArmedFault.TheVariants.{FailAt, CutAt, FailLane, CutLane}
use Rattle.disk.specs.Facts.{counted}

-- what is armed: nothing, a failure, or a cut of the power, of the disk or of one of its lanes
pub data Armed : Type 0 where
  Unarmed : Armed
  FaultArmed : Armed
  CutArmed : Armed

abbrev pub armed_by : ArmedFault → Armed
armed_by (FailAt n) = FaultArmed
armed_by (CutAt n) = CutArmed
armed_by (FailLane lane n) = FaultArmed
armed_by (CutLane lane n) = CutArmed

-- beside the facts of a disk: what is armed, whether an armed cut has struck, how often it failed by itself,
-- and all faults that were ever armed, as each was said, the newest first: no call changes these
pub record FaultState : Type 0 where
  pub armed : Armed
  pub struck : Bool
  pub own : ℕ
  pub armings : List ArmedFault

-- that fault is armed, in the place of an older one
abbrev pub fault_state_armed : ArmedFault → FaultState → FaultState
fault_state_armed fault m = record m { armed = armed_by fault; armings = fault ∷ m.armings }

-- why a call failed: by itself; what was armed struck, and is gone; or the power was cut before
abbrev pub Cause : FaultState → FaultState → Type 0
Cause old new =
    (new ≡ record old { own = counted old.own 1 })
    ⊎ ((old.armed ≡ FaultArmed) × (new ≡ record old { armed = Unarmed }))
    ⊎ ((old.armed ≡ CutArmed) × (new ≡ record old { armed = Unarmed; struck = true }))
    ⊎ ((old.struck ≡ true) × (new ≡ old))

-- an error has a cause, and with Ok nothing struck
pub record Caused {T E : Type 0} (old new : FaultState) (result : Result T E) : Type 0 where
  pub ok : OnOk result (new ≡ old)
  pub err : OnErr result (Cause old new)

-- the same where lanes come back that failed so often
pub record CausedInLanes (old new : FaultState) (failures : ℕ) : Type 0 where
  pub none : failures ≡ 0 → new ≡ old
  pub some : 0 < failures → Cause old new

-- power was cut: what was armed and has struck is gone, and the count of its own failures goes on
abbrev pub fault_state_left : FaultState → FaultState
fault_state_left m = record m { armed = Unarmed; struck = false }

abbrev pub no_fault : FaultState
no_fault = record { armed = Unarmed; struck = false; own = 0; armings = [] }
