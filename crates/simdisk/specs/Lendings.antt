-- What a split and a join do to the write log of a disk in memory, to what is armed, and to the lanes. Source:
-- docs/DISK.md, "Lanes".
use Rattle.std.specs.Prelude.{◌≡◌, ℕ, Bool, Option, List, Result, OnOk, OnErr, IfOk}
use Rattle.disk.specs.declared.device.ArmedFault.{ArmedFault}
use Rattle.disk.specs.Facts.{Lent, counted}
use Rattle.disk.specs.FaultState.{FaultState}
use Rattle.simdisk.specs.LaneStates.{LaneState, AreLent, WrittenBack, CameBack}
use Rattle.disk.specs.WriteLog.{WriteLog, more_written, lent_piece, newest, SameRanges}

-- A split. With Ok what is lent counts as written, with what was written last in it, and so have it the
-- lanes, each with its own faults; with an error the log stays. What is armed stays.
pub record Lends {T E : Type 0} (lanes_of : T → List LaneState) (l : Lent) (old new : WriteLog)
    (was is : Option ArmedFault) (cut : Bool) (result : Result T E) : Type 0 where
  pub noted : OnOk result (new ≡ more_written (lent_piece l (newest old)) old)
  pub refused : OnErr result (new ≡ old)
  pub armed : is ≡ was
  pub lanes : IfOk result (λ out. AreLent l (newest old) was cut (lanes_of out))

-- A join of these lanes, which failed so often: no range is written that was not, what was written last in
-- each lane is so on the disk, and the disk learns what has become of the faults.
pub record TakesBack (l : Lent) (lanes : List LaneState) (failures : ℕ) (old new : WriteLog)
    (was is : Option ArmedFault) (before after : FaultState) : Type 0 where
  pub ranges : SameRanges old new
  pub written : WrittenBack l lanes (newest old) (newest new)
  pub faults : (own : ℕ) × (after.own ≡ counted before.own own)
      × CameBack was before.struck lanes (counted 0 failures) is after.struck own
