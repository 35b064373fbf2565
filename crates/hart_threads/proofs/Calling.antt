-- A durable call keeps the name of a store's life, and what it adds to the journal.
use Rattle.std.proofs.Common.{◌≡◌, ℕ, List, [], Result, Ok, Err, refl, sym, ap, subst, ⊎_elim}
use Rattle.board_model.specs.{Durable.{DurableState, Reset, Suspend}, Shapes.Size, declared.durable.Reason.Reason}
use Rattle.board_model.specs.declared.refusal.Refusal.{Refusal}
use Rattle.board_model.specs.declared.durable.Command.TheVariants as commands
use Rattle.board_model.specs.declared.durable.Entry.TheVariants as entries
use Rattle.disk.specs.{declared.{device.{Disk.Ghosts, Lane.{Ghosts as Lanes}}}}
use Rattle.hart.specs.State.{ArchState}
use Rattle.hsm.specs.Words.{HartView}
use Rattle.store.specs.{Follows.FitsBoard, Views.{size_of_store, doubt_of, journal_of}, declared.stores.Store.Store, Asked.Asked}
use Rattle.store.specs.Lives.{Applied}
use Rattle.sbi_abi.specs.declared.{call.Call.Call, ret.SbiError.SbiError}
use Rattle.sbi_abi.specs.declared.call.Call.TheVariants as calls
use Rattle.sbi_calls.specs.{Both.Known, declared.words.Did.{Did, TheVariants.Next}}
use Rattle.susp.specs.{Checks.IsChecked, Sleeps.{AsksToSleep, Settles, FallsAsleep, SleepsAt}, declared.{buses.Bus.Bus, sleeps.Sleep.Sleep}}
use Rattle.susp.specs.declared.sleeps.Sleep.TheVariants.{ToRam, ToDisk}
use Rattle.sbi.specs.{declared.{words.Word.{Word, TheVariants.Goes}, resets.ResetType.ResetType}, Resets.reset_of}
use Rattle.sbi.specs.Helds.{EndsReset, EndsSleep, MakesReset, MakesSleep, MakesHeld}
use Rattle.hart_threads.{specs.{Legal.IsNamed, Called.AddsBy}, proofs.Naming.{asked_named, slept_named}}

-- that a suspension was answered with
pub ends_with : (fell : Result Sleep SbiError) (e : SbiError) (s t : ArchState) (word : Word) → fell ≡ Err e → EndsSleep fell s t word → word ≡ Goes Next
ends_with fell e s t word is ends = (subst (λ (x : Result Sleep SbiError). EndsSleep x s t word) is ends).1

module _ {D L : Type 0} {g : Ghosts D L} {l : Lanes L} (found : DurableState) (size : Size) where
  pub record Made (call : Call) (by : ℕ) (word : Word) (old new : Store D L g l) : Type 0 where
    pub named : IsNamed found size new
    pub adds : AddsBy size call by word (journal_of old) (journal_of new)

  -- the life goes on, and the journal stays
  goes : (call : Call) (by : ℕ) (did : Did) (word : Word) (old new : Store D L g l) → IsNamed found size new → word ≡ Goes did → journal_of new ≡ journal_of old → Made call by word old new
  goes call by did word old new is told same = record { named = is; adds = subst (λ (w : Word). AddsBy size call by w (journal_of old) (journal_of new)) (sym told) same }

  -- nothing was asked
  unasked : (call : Call) (by : ℕ) (did : Did) (word : Word) (old new : Store D L g l) → IsNamed found size old → word ≡ Goes did → new ≡ old → Made call by word old new
  unasked call by did word old new is told same =
      goes call by did word old new (subst (λ (s : Store D L g l). IsNamed found size s) (sym same) is) told (ap (λ (s : Store D L g l). journal_of s) same)

  reset_by : (kind number : ℕ) (type : ResetType) (cause : Reason) (r : Result ℕ Refusal) (s t : ArchState) (old new : Store D L g l) (word : Word)
      → IsNamed found size old → reset_of kind number ≡ Ok (type, cause) → Asked Applied old (Reset cause) r new → EndsReset type r s t word → Made (calls.SystemReset kind number) s.id word old new
  reset_by kind number type cause (Ok n) s t old new word is asks asked ends =
      let did = asked_named found size old new (Reset cause) (Ok n) (doubt_of old) refl is asked in
      record {
        named = did.0;
        adds = subst (λ (w : Word). AddsBy size (calls.SystemReset kind number) s.id w (journal_of old) (journal_of new)) (sym ends.1) (entries.Command (commands.Reset cause), [], (cause, asks, refl), did.1.0, did.1.2);
      }
  reset_by kind number type cause (Err e) s t old new word is asks asked ends =
      let did = asked_named found size old new (Reset cause) (Err e) (doubt_of old) refl is asked in
      goes (calls.SystemReset kind number) s.id Next word old new did.0 ends.1 did.1

  reset_made : (kind number : ℕ) (asked : Result (ResetType × Reason) SbiError) (s t : ArchState) (old new : Store D L g l) (word : Word)
      → IsNamed found size old → reset_of kind number ≡ asked → MakesReset asked s t old new word → Made (calls.SystemReset kind number) s.id word old new
  reset_made kind number (Err e) s t old new word is asks p = unasked (calls.SystemReset kind number) s.id Next word old new is p.0.1 p.1
  reset_made kind number (Ok reset) s t old new word is asks p = reset_by kind number reset.0 reset.1 p.0 s t old new word is asks p.1 p.2

  sleep_by : (kind address site opaque : ℕ) (memory : List ℕ) (r : Result ℕ Refusal) (mid vs : List HartView) (fell : Result Sleep SbiError) (s t : ArchState) (old new : Store D L g l) (word : Word)
      → IsNamed found size old → IsChecked size kind address (Ok (ToDisk, site)) → AsksToSleep s.id site opaque memory old r new → Settles s.id r mid fell vs → EndsSleep fell s t word → Made (calls.SystemSuspend kind address opaque) s.id word old new
  sleep_by kind address site opaque memory (Ok n) mid vs fell s t old new word is checked asked settles ends =
      let did = slept_named found size old new (FitsBoard (size_of_store old) memory s.id site) (Suspend s.id site opaque memory) (Ok n) (doubt_of old) refl is asked in
      let told = subst (λ (x : Result Sleep SbiError). EndsSleep x s t word) settles.0 ends in
      record {
        named = did.0;
        adds = subst (λ (w : Word). AddsBy size (calls.SystemSuspend kind address opaque) s.id w (journal_of old) (journal_of new)) (sym told.1) (entries.Suspend s.id site opaque, memory, (site, opaque, (checked, refl), refl), did.1.0, did.1.2);
      }
  sleep_by kind address site opaque memory (Err e) mid vs fell s t old new word is checked asked settles ends =
      let did = slept_named found size old new (FitsBoard (size_of_store old) memory s.id site) (Suspend s.id site opaque memory) (Err e) (doubt_of old) refl is asked in
      goes (calls.SystemSuspend kind address opaque) s.id Next word old new did.0 (ends_with fell _ s t word settles.0 ends) did.1

  fallen_by : (sleep : Sleep) (kind address site opaque : ℕ) (mid vs : List HartView) (bus bus' : Bus) (fell : Result Sleep SbiError) (s t : ArchState) (old new : Store D L g l) (word : Word)
      → IsNamed found size old → IsChecked size kind address (Ok (sleep, site)) → FallsAsleep sleep s.id site opaque mid bus old fell vs bus' new → EndsSleep fell s t word → Made (calls.SystemSuspend kind address opaque) s.id word old new
  fallen_by ToRam kind address site opaque mid vs bus bus' fell s t old new word is checked p ends =
      unasked (calls.SystemSuspend kind address opaque) s.id _ word old new is (subst (λ (x : Result Sleep SbiError). EndsSleep x s t word) p.0.0 ends).1 p.0.2
  fallen_by ToDisk kind address site opaque mid vs bus bus' fell s t old new word is checked p ends =
      sleep_by kind address site opaque bus.ram p.0 mid vs fell s t old new word is checked p.1 p.2 ends

  slept_by : (harts kind address : ℕ) (asked : Result (Sleep × ℕ) SbiError) (opaque : ℕ) (vs vs' : List HartView) (bus bus' : Bus) (fell : Result Sleep SbiError) (s t : ArchState) (old new : Store D L g l) (word : Word)
      → IsNamed found size old → IsChecked size kind address asked → SleepsAt harts s.id asked opaque vs bus old fell vs' bus' new → EndsSleep fell s t word → Made (calls.SystemSuspend kind address opaque) s.id word old new
  slept_by harts kind address (Err e) opaque vs vs' bus bus' fell s t old new word is checked p ends =
      unasked (calls.SystemSuspend kind address opaque) s.id Next word old new is (ends_with fell e s t word p.0 ends) p.3
  slept_by harts kind address (Ok asked) opaque vs vs' bus bus' fell s t old new word is checked p ends =
      ⊎_elim
      (λ denied. unasked (calls.SystemSuspend kind address opaque) s.id Next word old new is (ends_with fell _ s t word denied.1 ends) denied.4)
      (λ fallen. fallen_by asked.0 kind address asked.1 opaque p.1 vs' bus bus' fell s t old new word is checked fallen.1 ends)
      p.3

  sleep_made : (harts kind address opaque : ℕ) (s t : ArchState) (k k' : Known) (bus bus' : Bus) (old new : Store D L g l) (word : Word)
      → IsNamed found size old → MakesSleep harts kind address opaque s t k k' bus bus' old new word → Made (calls.SystemSuspend kind address opaque) s.id word old new
  sleep_made harts kind address opaque s t k k' bus bus' old new word is p =
      slept_by harts kind address p.1.asked opaque k.harts k'.harts bus bus' p.0 s t old new word is (subst (λ (z : Size). IsChecked z kind address p.1.asked) is.board p.1.checked) p.1.slept p.3

  pub made : (harts : ℕ) (call : Call) (s t : ArchState) (k k' : Known) (bus bus' : Bus) (old new : Store D L g l) (word : Word)
      → IsNamed found size old → MakesHeld harts call s t k k' bus bus' old new word → Made call s.id word old new
  made harts (calls.SystemReset kind cause) s t k k' bus bus' old new word is p = reset_made kind cause (reset_of kind cause) s t old new word is refl p.0
  made harts (calls.SystemSuspend kind address opaque) s t k k' bus bus' old new word is p = sleep_made harts kind address opaque s t k k' bus bus' old new word is p
  made harts call s t k k' bus bus' old new word is p = unasked call s.id Next word old new is p.0.1 p.1
