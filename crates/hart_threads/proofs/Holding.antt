-- A durable call, made with a bus and a store, by what was told of it, and the doze that the bus then has.
use Rattle.std.proofs.Common.{◌≡◌, ℕ, List, Option, Some, Result, Ok, Err, refl, sym, ap, subst, ⊎_elim, inl, inr}
use Rattle.disk.specs.{declared.{device.{Disk.Ghosts, Lane.{Ghosts as Lanes}}}}
use Rattle.board_model.specs.{Shapes.Size, declared.{durable.Reason.Reason, refusal.Refusal.Refusal}}
use Rattle.hart.specs.State.{ArchState}
use Rattle.hsm.specs.{Words.HartView, declared.view.Action.TheVariants.Quieted, Rule.HasNoted, Outcomes.after_quiet}
use Rattle.store.specs.{Views.size_of_store, declared.stores.Store.Store}
use Rattle.sbi_abi.specs.declared.{call.Call.Call, ret.SbiError.{SbiError, TheVariants.{Failed, Denied, NotSupported}}}
use Rattle.sbi_abi.specs.declared.call.Call.TheVariants as calls
use Rattle.sbi_calls.specs.Both.{Known}
use Rattle.susp.specs.{Checks.IsChecked, Dozes.dozing, Sleeps.{AreUnclaimed, Settles, FallsAsleep, SleepsAt}, declared.buses.Bus.Bus}
use Rattle.susp.specs.declared.{buses.Doze.Doze, sleeps.Sleep.{Sleep, TheVariants.{ToRam, ToDisk}}}
use Rattle.sbi.specs.{declared.{words.Word.Word, resets.ResetType.ResetType}, Resets.reset_of}
use Rattle.sbi.specs.Helds.{Refuses, EndsReset, EndsSleep, MakesReset, MakesSleep, MakesHeld}
use Rattle.hart_threads.specs.{Looks.doze_by, Threads.{ResetFinds, Finds, HeldOnce, IsDozeBy}}

-- ---- what the hart's part of the call came to, and the doze of which it keeps a copy where the bus then has that one
pub record HeldAs (size : Size) (call : Call) (s t : ArchState) (k k' : Known) (found : Option Doze) (word : Word) : Type 0 where
  pub once : HeldOnce size call s t k k' word
  pub doze : IsDozeBy size call s.id word (doze_by word found)

-- ---- an error
refused : (size : Size) (call : Call) (e : SbiError) (s t : ArchState) (k k' : Known) (found : Option Doze) (word : Word) → Finds size call s.id e k.harts k'.harts → Refuses e s t word → k'.pairs ≡ k.pairs → HeldAs size call s t k k' found word
refused size call e s t k k' found word finds p pairs =
    subst (λ (w : Word). HeldAs size call s t k k' found w) (sym p.1) (record { once = inl ((e, finds, p.0, pairs), refl); doze = refl })

-- that a suspension was answered with
ends_with : (size : Size) (call : Call) (fell : Result Sleep SbiError) (e : SbiError) (s t : ArchState) (k k' : Known) (found : Option Doze) (word : Word) → Finds size call s.id e k.harts k'.harts → fell ≡ Err e → EndsSleep fell s t word → k'.pairs ≡ k.pairs → HeldAs size call s t k k' found word
ends_with size call fell e s t k k' found word finds is ends pairs =
    refused size call e s t k k' found word finds (subst (λ (x : Result Sleep SbiError). EndsSleep x s t word) is ends) pairs

-- of a call that is not supported
unmade : (size : Size) (call : Call) (s t : ArchState) (k k' : Known) (found : Option Doze) (word : Word) → (k'.harts ≡ k.harts → Finds size call s.id NotSupported k.harts k'.harts) → Refuses NotSupported s t word → k' ≡ k → HeldAs size call s t k k' found word
unmade size call s t k k' found word finds p same = refused size call NotSupported s t k k' found word (finds (ap (λ (x : Known). x.harts) same)) p (ap (λ (x : Known). x.pairs) same)

-- ---- a reset
reset_by : (size : Size) (kind number : ℕ) (type : ResetType) (cause : Reason) (r : Result ℕ Refusal) (s t : ArchState) (k k' : Known) (found : Option Doze) (word : Word)
    → reset_of kind number ≡ Ok (type, cause) → EndsReset type r s t word → k' ≡ k → HeldAs size (calls.SystemReset kind number) s t k k' found word
reset_by size kind number type cause (Ok n) s t k k' found word is ends same =
    subst (λ (w : Word). HeldAs size (calls.SystemReset kind number) s t k k' found w) (sym ends.1) (record { once = inr (inr (type, ends.0, same, refl)); doze = refl })
reset_by size kind number type cause (Err e) s t k k' found word is ends same =
    refused size (calls.SystemReset kind number) Failed s t k k' found word (subst (λ (x : Result (ResetType × Reason) SbiError). ResetFinds x Failed) (sym is) refl, ap (λ (x : Known). x.harts) same) ends (ap (λ (x : Known). x.pairs) same)

-- ---- a suspension to disk
sleep_by : (size : Size) (kind address site opaque found : ℕ) (r : Result ℕ Refusal) (mid : List HartView) (fell : Result Sleep SbiError) (s t : ArchState) (k k' : Known) (doze : Option Doze) (word : Word)
    → IsChecked size kind address (Ok (ToDisk, site)) → AreUnclaimed size.harts s.id found → HasNoted s.id (after_quiet size.harts s.id found) (Quieted found) k.harts mid → Settles s.id r mid fell k'.harts
    → EndsSleep fell s t word → k'.pairs ≡ k.pairs → HeldAs size (calls.SystemSuspend kind address opaque) s t k k' doze word
sleep_by size kind address site opaque found (Ok n) mid fell s t k k' doze word checked alone noted settles ends pairs =
    let told = subst (λ (x : Result Sleep SbiError). EndsSleep x s t word) settles.0 ends in
    let looked = subst (λ (vs : List HartView). HasNoted s.id (after_quiet size.harts s.id found) (Quieted found) k.harts vs) (sym settles.1) noted in
    subst (λ (w : Word). HeldAs size (calls.SystemSuspend kind address opaque) s t k k' doze w) (sym told.1) (record { once = inr (inl (ToDisk, (found, alone, looked, told.0, pairs), refl)); doze = refl })
sleep_by size kind address site opaque found (Err e) mid fell s t k k' doze word checked alone noted settles ends pairs =
    ends_with size (calls.SystemSuspend kind address opaque) fell Failed s t k k' doze word (Ok (ToDisk, site), checked, (found, mid, noted, inr (alone, refl, refl, settles.1))) settles.0 ends pairs

-- ---- a suspension to RAM: the bus has the doze that was asked for
doze_held : (size : Size) (kind address site opaque found : ℕ) (mid : List HartView) (fell : Result Sleep SbiError) (s t : ArchState) (k k' : Known) (doze : Option Doze) (word : Word)
    → IsChecked size kind address (Ok (ToRam, site)) → AreUnclaimed size.harts s.id found → HasNoted s.id (after_quiet size.harts s.id found) (Quieted found) k.harts mid → fell ≡ Ok ToRam → doze ≡ Some (dozing s.id site opaque) → k'.harts ≡ mid
    → EndsSleep fell s t word → k'.pairs ≡ k.pairs → HeldAs size (calls.SystemSuspend kind address opaque) s t k k' doze word
doze_held size kind address site opaque found mid fell s t k k' doze word checked alone noted is dozes stays ends pairs =
    let told = subst (λ (x : Result Sleep SbiError). EndsSleep x s t word) is ends in
    let looked = subst (λ (vs : List HartView). HasNoted s.id (after_quiet size.harts s.id found) (Quieted found) k.harts vs) (sym stays) noted in
    subst (λ (w : Word). HeldAs size (calls.SystemSuspend kind address opaque) s t k k' doze w) (sym told.1)
    (record { once = inr (inl (ToRam, (found, alone, looked, told.0, pairs), refl)); doze = (site, opaque, (checked, refl), dozes) })

module _ {D L : Type 0} {g : Ghosts D L} {l : Lanes L} where
  reset_once : (size : Size) (kind number : ℕ) (asked : Result (ResetType × Reason) SbiError) (s t : ArchState) (k k' : Known) (old new : Store D L g l) (found : Option Doze) (word : Word)
      → reset_of kind number ≡ asked → MakesReset asked s t old new word → k' ≡ k → HeldAs size (calls.SystemReset kind number) s t k k' found word
  reset_once size kind number (Err e) s t k k' old new found word is p same =
      refused size (calls.SystemReset kind number) e s t k k' found word (subst (λ (x : Result (ResetType × Reason) SbiError). ResetFinds x e) (sym is) refl, ap (λ (x : Known). x.harts) same) p.0 (ap (λ (x : Known). x.pairs) same)
  reset_once size kind number (Ok reset) s t k k' old new found word is p same = reset_by size kind number reset.0 reset.1 p.0 s t k k' found word is p.2 same

  fallen_by : (size : Size) (kind address : ℕ) (sleep : Sleep) (site opaque found : ℕ) (mid : List HartView) (bus bus' : Bus) (fell : Result Sleep SbiError) (s t : ArchState) (k k' : Known) (old new : Store D L g l) (word : Word)
      → IsChecked size kind address (Ok (sleep, site)) → AreUnclaimed size.harts s.id found → HasNoted s.id (after_quiet size.harts s.id found) (Quieted found) k.harts mid → FallsAsleep sleep s.id site opaque mid bus old fell k'.harts bus' new
      → EndsSleep fell s t word → k'.pairs ≡ k.pairs → HeldAs size (calls.SystemSuspend kind address opaque) s t k k' bus'.doze word
  fallen_by size kind address ToRam site opaque found mid bus bus' fell s t k k' old new word checked alone noted p ends pairs =
      doze_held size kind address site opaque found mid fell s t k k' bus'.doze word checked alone noted p.0.0 (ap (λ (b : Bus). b.doze) p.0.1) p.1 ends pairs
  fallen_by size kind address ToDisk site opaque found mid bus bus' fell s t k k' old new word checked alone noted p ends pairs =
      sleep_by size kind address site opaque found p.0 mid fell s t k k' bus'.doze word checked alone noted p.2 ends pairs

  slept_by : (size : Size) (kind address : ℕ) (asked : Result (Sleep × ℕ) SbiError) (opaque : ℕ) (bus bus' : Bus) (fell : Result Sleep SbiError) (s t : ArchState) (k k' : Known) (old new : Store D L g l) (word : Word)
      → IsChecked size kind address asked → SleepsAt size.harts s.id asked opaque k.harts bus old fell k'.harts bus' new → EndsSleep fell s t word → k'.pairs ≡ k.pairs → HeldAs size (calls.SystemSuspend kind address opaque) s t k k' bus'.doze word
  slept_by size kind address (Err e) opaque bus bus' fell s t k k' old new word checked p ends pairs =
      ends_with size (calls.SystemSuspend kind address opaque) fell e s t k k' bus'.doze word (Err e, checked, (refl, p.1)) p.0 ends pairs
  slept_by size kind address (Ok asked) opaque bus bus' fell s t k k' old new word checked p ends pairs =
      ⊎_elim
      (λ denied. ends_with size (calls.SystemSuspend kind address opaque) fell Denied s t k k' bus'.doze word (Ok asked, checked, (p.0, p.1, p.2, inl (denied.0, refl, denied.2))) denied.1 ends pairs)
      (λ fallen. fallen_by size kind address asked.0 asked.1 opaque p.0 p.1 bus bus' fell s t k k' old new word checked fallen.0 p.2 fallen.1 ends pairs)
      p.3

  sleep_once : (size : Size) (kind address opaque : ℕ) (s t : ArchState) (k k' : Known) (bus bus' : Bus) (old new : Store D L g l) (word : Word) → size_of_store old ≡ size → MakesSleep size.harts kind address opaque s t k k' bus bus' old new word → HeldAs size (calls.SystemSuspend kind address opaque) s t k k' bus'.doze word
  sleep_once size kind address opaque s t k k' bus bus' old new word board p =
      slept_by size kind address p.1.asked opaque bus bus' p.0 s t k k' old new word (subst (λ (z : Size). IsChecked z kind address p.1.asked) board p.1.checked) p.1.slept p.3 p.2

  -- ---- any call
  once_of : (size : Size) (call : Call) (s t : ArchState) (k k' : Known) (bus bus' : Bus) (old new : Store D L g l) (word : Word) → size_of_store old ≡ size → MakesHeld size.harts call s t k k' bus bus' old new word → HeldAs size call s t k k' bus'.doze word
  once_of size (calls.SystemReset kind cause) s t k k' bus bus' old new word board p = reset_once size kind cause (reset_of kind cause) s t k k' old new bus'.doze word refl p.0 p.1
  once_of size (calls.SystemSuspend kind address opaque) s t k k' bus bus' old new word board p = sleep_once size kind address opaque s t k k' bus bus' old new word board p
  once_of size call s t k k' bus bus' old new word board p = unmade size call s t k k' bus'.doze word (λ same. (refl, same)) p.0 p.2

  pub held_once : (harts : ℕ) (size : Size) (call : Call) (s t : ArchState) (k k' : Known) (bus bus' : Bus) (old new : Store D L g l) (word : Word) → harts ≡ size.harts → size_of_store old ≡ size → MakesHeld harts call s t k k' bus bus' old new word → HeldAs size call s t k k' bus'.doze word
  held_once harts size call s t k k' bus bus' old new word e board p = once_of size call s t k k' bus bus' old new word board (subst (λ (n : ℕ). MakesHeld n call s t k k' bus bus' old new word) e p)
