-- What a system suspend does, in its order: its arguments, the quiet, the store. Source: SBI specification
-- 2.0, chapter 13; docs/SBI.md.
use Rattle.std.specs.Prelude.{◌≡◌, ◌≢◌, ◌⊎◌, ◌<◌, ℕ, List, Some, Result, Ok, Err}
use Rattle.std.specs.Int.{bit_at}
use Rattle.board_model.specs.Durable.{Suspend}
use Rattle.board_model.specs.declared.refusal.Refusal.{Refusal}
use Rattle.disk.specs.declared.device.Disk.{Ghosts}
use Rattle.disk.specs.declared.device.Lane.{Ghosts as Lanes}
use Rattle.hsm.specs.Words.{HartView}
use Rattle.hsm.specs.declared.view.Stage.{Stage}
use Rattle.hsm.specs.declared.view.Stage.TheVariants.{Running, Quiet}
use Rattle.hsm.specs.declared.view.Action.TheVariants.{Quieted, Unquieted}
use Rattle.hsm.specs.Rule.{HasNoted}
use Rattle.hsm.specs.States.{HartState, stopped}
use Rattle.hsm.specs.Outcomes.{after_quiet}
use Rattle.sbi_abi.specs.declared.ret.SbiError.{SbiError}
use Rattle.sbi_abi.specs.declared.ret.SbiError.TheVariants.{Failed, Denied}
use Rattle.store.specs.Follows.{FitsBoard}
use Rattle.store.specs.Lives.{Suspended}
use Rattle.store.specs.Views.{size_of_store}
use Rattle.store.specs.declared.stores.Store.{Store}
use Rattle.susp.specs.declared.sleeps.Sleep.{Sleep}
use Rattle.susp.specs.declared.sleeps.Sleep.TheVariants.{ToRam, ToDisk}
use Rattle.susp.specs.declared.buses.Bus.{Bus}
use Rattle.susp.specs.Dozes.{dozing}
use Rattle.store.specs.Asked.{Asked}
use Rattle.susp.specs.Checks.{IsChecked}

-- ---- what the call answers
-- where the hart then stands, by how the board sleeps or the error where it does not
abbrev pub stage_after : Result Sleep SbiError → Stage
stage_after (Ok sleep) = Quiet
stage_after (Err e) = Running

-- ---- every other hart is STOPPED
-- by the first word of the hart table, as one look found it: none of them is claimed
abbrev pub AreUnclaimed : ℕ → ℕ → ℕ → Type 0
AreUnclaimed harts by found = (t : ℕ) → t < harts → t ≢ by → bit_at found t ≡ 0

-- by the states
abbrev pub AreStopped : ℕ → ℕ → (ℕ → HartState) → Type 0
AreStopped harts by states = (t : ℕ) → t < harts → t ≢ by → states t ≡ stopped

-- ---- once the quiet holds
-- acknowledged, the board sleeps and the quiet lasts; refused, the quiet ends and the answer is -1
abbrev pub Settles : ℕ → Result ℕ Refusal → List HartView → Result Sleep SbiError → List HartView → Type 0
Settles by (Ok n) vs fell vs' = (fell ≡ Ok ToDisk) × (vs' ≡ vs)
Settles by (Err e) vs fell vs' = (fell ≡ Err Failed) × ((found : ℕ) × HasNoted by Running (Unquieted found) vs vs')

abbrev pub Answers : Result ℕ Refusal → Result Sleep SbiError → Type 0
Answers (Ok n) fell = fell ≡ Ok ToDisk
Answers (Err e) fell = fell ≡ Err Failed

module _ {D L : Type 0} {g : Ghosts D L} {l : Lanes L} where
  -- the store was asked to suspend the board, with this memory
  abbrev pub AsksToSleep : ℕ → ℕ → ℕ → List ℕ → Store D L g l → Result ℕ Refusal → Store D L g l → Type 0
  AsksToSleep by site opaque memory old r new =
      Asked (Suspended (FitsBoard (size_of_store old) memory by site)) old (Suspend by site opaque memory) r new

  -- to RAM the board dozes, and neither the store is asked nor anything of the memory changes
  abbrev pub Dozes : ℕ → ℕ → ℕ → Bus → Store D L g l → Result Sleep SbiError → Bus → Store D L g l → Type 0
  Dozes by site opaque bus old fell bus' new =
      (fell ≡ Ok ToRam) × (bus' ≡ record bus { doze = Some (dozing by site opaque) }) × (new ≡ old)

  -- to disk the store is asked, and nothing of the bus changes
  abbrev pub FallsAsleep : Sleep → ℕ → ℕ → ℕ → List HartView → Bus → Store D L g l → Result Sleep SbiError
      → List HartView → Bus → Store D L g l → Type 0
  FallsAsleep ToRam by site opaque vs bus old fell vs' bus' new = Dozes by site opaque bus old fell bus' new × (vs' ≡ vs)
  FallsAsleep ToDisk by site opaque vs bus old fell vs' bus' new =
      (r : Result ℕ Refusal) × AsksToSleep by site opaque bus.ram old r new × Settles by r vs fell vs' × (bus' ≡ bus)

  -- ---- the call's own steps, whatever other harts do
  abbrev pub SleepsAt : ℕ → ℕ → Result (Sleep × ℕ) SbiError → ℕ → List HartView → Bus → Store D L g l
      → Result Sleep SbiError → List HartView → Bus → Store D L g l → Type 0
  SleepsAt harts by (Err e) opaque vs bus old fell vs' bus' new =
      (fell ≡ Err e) × (vs' ≡ vs) × (bus' ≡ bus) × (new ≡ old)
  SleepsAt harts by (Ok asked) opaque vs bus old fell vs' bus' new =
      (found : ℕ) × (mid : List HartView) × HasNoted by (after_quiet harts by found) (Quieted found) vs mid
      × (((AreUnclaimed harts by found → ⊥) × (fell ≡ Err Denied) × (vs' ≡ mid) × (bus' ≡ bus) × (new ≡ old))
      ⊎ (AreUnclaimed harts by found × FallsAsleep asked.0 by asked.1 opaque mid bus old fell vs' bus' new))

  pub record Sleeps (harts by kind address opaque : ℕ) (vs : List HartView) (bus : Bus) (old : Store D L g l)
      (fell : Result Sleep SbiError) (vs' : List HartView) (bus' : Bus) (new : Store D L g l) : Type 0 where
    pub asked : Result (Sleep × ℕ) SbiError
    pub checked : IsChecked (size_of_store old) kind address asked
    pub slept : SleepsAt harts by asked opaque vs bus old fell vs' bus' new

  -- ---- with the one seat of all harts, by the states that it shows
  abbrev pub FallsAsleepBy : Sleep → ℕ → ℕ → ℕ → Bus → Store D L g l → Result Sleep SbiError → Bus
      → Store D L g l → Type 0
  FallsAsleepBy ToRam by site opaque bus old fell bus' new = Dozes by site opaque bus old fell bus' new
  FallsAsleepBy ToDisk by site opaque bus old fell bus' new =
      (r : Result ℕ Refusal) × AsksToSleep by site opaque bus.ram old r new × Answers r fell × (bus' ≡ bus)

  abbrev pub SleepsBy : ℕ → ℕ → Result (Sleep × ℕ) SbiError → ℕ → (ℕ → HartState) → Bus → Store D L g l
      → Result Sleep SbiError → Bus → Store D L g l → Type 0
  SleepsBy harts by (Err e) opaque states bus old fell bus' new = (fell ≡ Err e) × (bus' ≡ bus) × (new ≡ old)
  SleepsBy harts by (Ok asked) opaque states bus old fell bus' new =
      ((AreStopped harts by states → ⊥) × (fell ≡ Err Denied) × (bus' ≡ bus) × (new ≡ old))
      ⊎ (AreStopped harts by states × FallsAsleepBy asked.0 by asked.1 opaque bus old fell bus' new)

  pub record SleepsAlone (harts by kind address opaque : ℕ) (states : ℕ → HartState) (bus : Bus) (old : Store D L g l)
      (fell : Result Sleep SbiError) (bus' : Bus) (new : Store D L g l) : Type 0 where
    pub asked : Result (Sleep × ℕ) SbiError
    pub checked : IsChecked (size_of_store old) kind address asked
    pub slept : SleepsBy harts by asked opaque states bus old fell bus' new
