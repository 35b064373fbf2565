-- What a lane of the disk in memory keeps beside its facts, and how it comes from the disk and goes back to
-- it.
use Rattle.std.specs.Prelude.{◌≡◌, ◌==◌, if◌then◌else◌, ℕ, ◌+◌, ◌*◌, ◌<◌, Bool, true, false, Option, Some, None, List, [], length, take, drop, get_or, Result, OnOk, OnErr}
use Rattle.disk.specs.declared.device.ArmedFault.{ArmedFault}
use Rattle.disk.specs.declared.device.ArmedFault.TheVariants.{FailAt, CutAt, FailLane, CutLane}
use Rattle.disk.specs.Facts.{Content, Lent, Torn, counted, lent_sectors, sector}
use Rattle.simdisk.specs.Armings.{FailsNext, one_call_on, Struck, cuts}

pub record LaneState : Type 0 where
  -- what would stand in it, had each failed write gone through
  pub newest : Content
  -- what is armed in it, as a fault of its own calls, with those that are left to it
  pub armed : Option ArmedFault
  -- whether its power was cut
  pub cut : Bool
  -- how many calls were made of it
  pub calls : ℕ

-- past the end of a list of lanes
abbrev pub no_state : LaneState
no_state = record { newest = []; armed = None; cut = false; calls = 0 }

abbrev pub state_at : List LaneState → ℕ → LaneState
state_at lanes i = get_or lanes i no_state

-- A call of a lane: it answers Ok exactly where neither its power was cut nor what is armed in it strikes.
pub record LaneCalled {T E : Type 0} (old new : LaneState) (result : Result T E) : Type 0 where
  pub ok : OnOk result ((FailsNext old.cut old.armed → ⊥) × (new.armed ≡ one_call_on old.armed) × (new.cut ≡ old.cut))
  pub err : OnErr result (FailsNext old.cut old.armed × Struck old.cut old.armed new.cut new.armed)
  pub calls : new.calls ≡ counted old.calls 1

-- what is armed of the disk, as the lane of that number has it
abbrev pub armed_in : ℕ → Option ArmedFault → Option ArmedFault
armed_in i None = None
armed_in i (Some (FailAt n)) = None
armed_in i (Some (CutAt n)) = None
armed_in i (Some (FailLane lane n)) = (if lane == i then Some (FailAt n) else None)
armed_in i (Some (CutLane lane n)) = (if lane == i then Some (CutAt n) else None)

-- a lane that was just lent, of a disk with that armed and power cut or not
pub record IsLent (first each i : ℕ) (newest : Content) (armed : Option ArmedFault) (cut : Bool) (lane : LaneState) : Type 0 where
  pub written : lane.newest ≡ take each (drop (first + i * each) newest)
  pub arms : lane.armed ≡ armed_in i armed
  pub power : lane.cut ≡ cut
  pub none : lane.calls ≡ 0

-- the lanes that a split hands out
pub record AreLent (l : Lent) (newest : Content) (armed : Option ArmedFault) (cut : Bool) (lanes : List LaneState) : Type 0 where
  pub count : length lanes ≡ l.lanes
  pub each : (i : ℕ) → i < l.lanes → IsLent l.first l.each i newest armed cut (state_at lanes i)

-- what was written last on the disk, once those lanes came back: what was written last in each of them, and
-- all else as it was
pub record WrittenBack (l : Lent) (lanes : List LaneState) (old new : Content) : Type 0 where
  pub elsewhere : Torn l.first (lent_sectors l) old new
  pub there : (i j : ℕ) → i < l.lanes → j < l.each
      → sector (state_at lanes i).newest j ≡ sector new (l.first + i * l.each + j)

-- the calls of these lanes, by their numbers, are counted
abbrev pub CountsLanes : List LaneState → List ℕ → List ℕ → Type 0
CountsLanes lanes old new =
    (length new ≡ length old) × ((i : ℕ) → i < length old → get_or new i 0 ≡ counted (get_or old i 0) (state_at lanes i).calls)

-- the fault of a lane with the calls that are left to it in that lane
abbrev pub left_to : ArmedFault → Option ArmedFault → Option ArmedFault
left_to (FailLane lane n) (Some (FailAt m)) = Some (FailLane lane m)
left_to (CutLane lane n) (Some (CutAt m)) = Some (CutLane lane m)
left_to fault armed = Some fault

-- what is armed once lanes came back in which nothing failed
abbrev pub counted_on : Option ArmedFault → List LaneState → Option ArmedFault
counted_on None lanes = None
counted_on (Some (FailAt n)) lanes = Some (FailAt n)
counted_on (Some (CutAt n)) lanes = Some (CutAt n)
counted_on (Some (FailLane lane n)) lanes = left_to (FailLane lane n) (state_at lanes lane).armed
counted_on (Some (CutLane lane n)) lanes = left_to (CutLane lane n) (state_at lanes lane).armed

-- what was armed has struck in its lane
abbrev pub HasStruck : Option ArmedFault → List LaneState → Type 0
HasStruck None lanes = ⊥
HasStruck (Some (FailAt n)) lanes = ⊥
HasStruck (Some (CutAt n)) lanes = ⊥
HasStruck (Some (FailLane lane n)) lanes = (state_at lanes lane).armed ≡ None
HasStruck (Some (CutLane lane n)) lanes = (state_at lanes lane).armed ≡ None

-- What is armed and power, once lanes came back that failed so often, and how many failures by itself that
-- makes: none but of lanes that failed for no cause, which those of this disk don't.
pub record CameBack (armed : Option ArmedFault) (cut : Bool) (lanes : List LaneState) (failures : ℕ)
    (armed' : Option ArmedFault) (cut' : Bool) (own : ℕ) : Type 0 where
  pub calm : failures ≡ 0 → (armed' ≡ counted_on armed lanes) × (cut' ≡ cut) × (own ≡ 0)
  pub dark : 0 < failures → cut ≡ true → (armed' ≡ armed) × (cut' ≡ true) × (own ≡ 0)
  pub struck : 0 < failures → cut ≡ false → HasStruck armed lanes → (armed' ≡ None) × (cut' ≡ cuts armed) × (own ≡ 0)
  pub strange : 0 < failures → cut ≡ false → (HasStruck armed lanes → ⊥) → (armed' ≡ armed) × (cut' ≡ false) × (own ≡ 1)
