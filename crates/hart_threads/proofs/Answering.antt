-- What a durable call tells, by how the store answered the command that it asked for.
use Rattle.std.proofs.Common.{◌≡◌, ℕ, List, true, Result, Ok, Err, refl, sym, subst, inl, inr}
use Rattle.board_model.specs.{Durable.{Change, Reset, Suspend, ends_life}, declared.{durable.Reason.Reason, refusal.Refusal.Refusal}}
use Rattle.disk.specs.{declared.{device.{Disk.Ghosts, Lane.{Ghosts as Lanes}}}}
use Rattle.hart.specs.State.{ArchState}
use Rattle.hsm.specs.Words.{HartView}
use Rattle.store.specs.{Asked.Asked, Follows.FitsBoard, Lives.{Applied, Suspended}, Views.size_of_store, declared.stores.Store.Store}
use Rattle.sbi.specs.{Helds.{EndsReset, EndsSleep, MakesHeld, MakesReset}, declared.{resets.ResetType.ResetType, words.LifeEnd.LifeEnd}}
use Rattle.sbi.specs.declared.words.Word.{Word, TheVariants.{Goes, Over}}
use Rattle.sbi_abi.specs.declared.{call.Call.Call, ret.SbiError.SbiError}
use Rattle.sbi_abi.specs.declared.call.Call.TheVariants as calls
use Rattle.sbi_calls.specs.{Both.Known, declared.words.Did.Did}
use Rattle.susp.specs.{Sleeps.{FallsAsleep, Settles, SleepsAt}, declared.{buses.Bus.Bus, sleeps.Sleep.{Sleep, TheVariants.{ToRam, ToDisk}}}}
use Rattle.hart_threads.proofs.Calling.{ends_with}

module _ {D L : Type 0} {g : Ghosts D L} {l : Lanes L} (old new : Store D L g l) (After : Change → Result ℕ Refusal → Type 0) (Told : Word → Type 0) where
  -- what follows where nothing was asked, of each answer, and of what the answer has the hart told
  pub record Tells : Type 0 where
    pub same : (did : Did) → new ≡ old → Told (Goes did)
    pub reset : (cause : Reason) (r : Result ℕ Refusal) → Asked Applied old (Reset cause) r new → After (Reset cause) r
    pub slept : (by site opaque : ℕ) (memory : List ℕ) (r : Result ℕ Refusal) → Asked (Suspended (FitsBoard (size_of_store old) memory by site)) old (Suspend by site opaque memory) r new → After (Suspend by site opaque memory) r
    pub over : (c : Change) (n : ℕ) (end : LifeEnd) → ends_life c ≡ true → After c (Ok n) → Told (Over end)
    pub goes : (c : Change) (e : Refusal) (did : Did) → After c (Err e) → Told (Goes did)

  module _ (so : Tells) where
    unasked : (did : Did) (word : Word) → word ≡ Goes did → new ≡ old → Told word
    unasked did word on same = subst Told (sym on) (so.same did same)

    reset_by : (cause : Reason) (kind : ResetType) (r : Result ℕ Refusal) (s t : ArchState) (word : Word) → EndsReset kind r s t word → After (Reset cause) r → Told word
    reset_by cause kind (Ok n) s t word ended after = subst Told (sym ended.1) (so.over (Reset cause) n _ refl after)
    reset_by cause kind (Err e) s t word ended after = subst Told (sym ended.1) (so.goes (Reset cause) e _ after)

    reset_told : (asked : Result (ResetType × Reason) SbiError) (s t : ArchState) (word : Word) → MakesReset asked s t old new word → Told word
    reset_told (Err e) s t word p = unasked _ word p.0.1 p.1
    reset_told (Ok reset) s t word p = reset_by reset.1 reset.0 p.0 s t word p.2 (so.reset reset.1 p.0 p.1)

    disk_by : (c : Change) (r : Result ℕ Refusal) (by : ℕ) (mid vs : List HartView) (fell : Result Sleep SbiError) (s t : ArchState) (word : Word) → ends_life c ≡ true → Settles by r mid fell vs → EndsSleep fell s t word → After c r → Told word
    disk_by c (Ok n) by mid vs fell s t word ends settles ended after = subst Told (sym (subst (λ (x : Result Sleep SbiError). EndsSleep x s t word) settles.0 ended).1) (so.over c n _ ends after)
    disk_by c (Err e) by mid vs fell s t word ends settles ended after = subst Told (sym (ends_with fell _ s t word settles.0 ended)) (so.goes c e _ after)

    fallen_told : (sleep : Sleep) (by site opaque : ℕ) (vs vs' : List HartView) (bus bus' : Bus) (fell : Result Sleep SbiError) (s t : ArchState) (word : Word) → FallsAsleep sleep by site opaque vs bus old fell vs' bus' new → EndsSleep fell s t word → Told word
    fallen_told ToRam by site opaque vs vs' bus bus' fell s t word p ended = unasked _ word (subst (λ (x : Result Sleep SbiError). EndsSleep x s t word) p.0.0 ended).1 p.0.2
    fallen_told ToDisk by site opaque vs vs' bus bus' fell s t word p ended =
        disk_by (Suspend by site opaque bus.ram) p.0 by vs vs' fell s t word refl p.2 ended (so.slept by site opaque bus.ram p.0 p.1)

    slept_told : (harts by : ℕ) (asked : Result (Sleep × ℕ) SbiError) (opaque : ℕ) (vs vs' : List HartView) (bus bus' : Bus) (fell : Result Sleep SbiError) (s t : ArchState) (word : Word) → SleepsAt harts by asked opaque vs bus old fell vs' bus' new → EndsSleep fell s t word → Told word
    slept_told harts by (Err e) opaque vs vs' bus bus' fell s t word p ended = unasked _ word (ends_with fell e s t word p.0 ended) p.3
    slept_told harts by (Ok asked) opaque vs vs' bus bus' fell s t word p ended = elim (p.3) [
      | inl denied ↦ unasked _ word (ends_with fell _ s t word denied.1 ended) denied.4
      | inr fallen ↦ fallen_told asked.0 by asked.1 opaque p.1 vs' bus bus' fell s t word fallen.1 ended
    ]

    pub held_told : (harts : ℕ) (call : Call) (s t : ArchState) (k k' : Known) (bus bus' : Bus) (word : Word) → MakesHeld harts call s t k k' bus bus' old new word → Told word
    held_told harts (calls.SystemReset kind cause) s t k k' bus bus' word p = reset_told _ s t word p.0
    held_told harts (calls.SystemSuspend kind address opaque) s t k k' bus bus' word p = slept_told harts s.id p.1.asked opaque k.harts k'.harts bus bus' p.0 s t word p.1.slept p.3
    held_told harts call s t k k' bus bus' word p = unasked _ word p.0.1 p.1
