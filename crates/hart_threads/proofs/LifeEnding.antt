-- What holds of the commands that end a life: a command keeps that.
use Rattle.std.proofs.Common.{◌≡◌, ⊎_elim, ℕ, zero, suc, false, List, [], ◌∷◌, ◌++◌, Option, Some, None, Result, Ok, Err, refl, sym, ap, subst, inl, inr}
use Rattle.board_model.specs.{Durable.{DurableState, Change, Reset, Suspend, ends_life}, Shapes.Size, declared.durable.Reason.Reason}
use Rattle.board_model.specs.declared.refusal.Refusal.{Refusal}
use Rattle.disk.specs.{declared.{device.{Disk.Ghosts, Lane.{Ghosts as Lanes}}}}
use Rattle.hart.specs.State.{ArchState, answered}
use Rattle.hsm.specs.Words.{HartView}
use Rattle.store.specs.{Asked.Asked, Follows.FitsBoard, Lives.{Life, Applied, Refused, Suspended, SuspendRefused}}
use Rattle.store.specs.{Views.{life_of, doubt_of, size_of_store}, declared.stores.Store.Store}
use Rattle.sbi_abi.specs.{declared.{call.Call.Call, ret.SbiError.{SbiError, TheVariants.Failed}}, Answers.error_of}
use Rattle.sbi_abi.specs.declared.call.Call.TheVariants as calls
use Rattle.sbi_calls.specs.Both.{Known}
use Rattle.susp.specs.{Checks.IsChecked, Sleeps.{FallsAsleep, Settles, SleepsAt}, declared.{buses.Bus.Bus, sleeps.Sleep.Sleep}}
use Rattle.susp.specs.declared.sleeps.Sleep.TheVariants.{ToRam, ToDisk}
use Rattle.sbi.specs.declared.words.LifeEnd.TheVariants as ends
use Rattle.sbi.specs.{declared.{words.Word.{Word, TheVariants.Over}, resets.ResetType.ResetType}, Resets.reset_of}
use Rattle.sbi.specs.Helds.{EndsReset, EndsSleep, MakesReset, MakesHeld}
use Rattle.hart_threads.specs.{Called.{AsksReset, AsksSleep}, LifeEnds.{AllEndAs, EndsAs, IsEndedAs}}

-- ---- commands
some_or : Change → Option Change → Change
some_or c None = c
some_or c (Some d) = d

pub none_end : (P : Change → Type 0) → AllEndAs P []
none_end P = λ k c e. let no : ⊥ = cc in absurd no

pub more_end : (P : Change → Type 0) (c : Change) (cs : List Change) → EndsAs P c → AllEndAs P cs → AllEndAs P (c ∷ cs)
unfolding some_or
more_end P c cs one all zero d e = subst (λ (x : Change). EndsAs P x) (ap (λ (o : Option Change). some_or c o) e) one
more_end P c cs one all (suc k) d e = all k d e

-- one after which the life goes on
pub going_on : (P : Change → Type 0) (c : Change) → ends_life c ≡ false → EndsAs P c
going_on P c goes = λ is. let no : ⊥ = cc (is, goes) in absurd no

each_more : (P : Change → Type 0) (cs : List Change) (c : Change) → AllEndAs P cs → EndsAs P c → AllEndAs P (cs ++ c ∷ [])
each_more P [] c all one = more_end P c [] one (none_end P)
each_more P (d ∷ cs) c all one = more_end P d (cs ++ c ∷ []) (all 0 d refl) (each_more P cs c (λ k x e. all (suc k) x e) one)

-- ---- lives
module _ (P Q : Change → Type 0) where
  -- what such a command is that was answered so
  abbrev EndsBy : Result ℕ Refusal → Change → Type 0
  EndsBy (Ok n) c = EndsAs P c
  EndsBy (Err e) c = EndsAs Q c

  going_by : (c : Change) (r : Result ℕ Refusal) → ends_life c ≡ false → EndsBy r c
  going_by c (Ok n) goes = going_on P c goes
  going_by c (Err e) goes = going_on Q c goes

  in_doubt : (c d : Change) → Some c ≡ Some d → c ≡ d
  unfolding some_or
  in_doubt c d e = ap (λ (o : Option Change). some_or c o) e

  same_ends : (old new : Life) → IsEndedAs P Q old → new ≡ old → IsEndedAs P Q new
  same_ends old new is same = subst (λ (x : Life). IsEndedAs P Q x) (sym same) is

  refused_ends : (old new : Life) (c : Change) (e : Refusal) → IsEndedAs P Q old → EndsAs Q c → Refused old c e new → IsEndedAs P Q new
  refused_ends old new c e is one (inl p) = same_ends old new is p.2
  refused_ends old new c e is one (inr (inl p)) = subst (λ (x : Life). IsEndedAs P Q x) (sym p.2) (record { journal = is.journal; doubt = λ d e. subst (λ (x : Change). EndsAs Q x) (in_doubt c d e) one })
  refused_ends old new c e is one (inr (inr (inl p))) = same_ends old new is p.2
  refused_ends old new c e is one (inr (inr (inr (inl p)))) = same_ends old new is p.3
  refused_ends old new c e is one (inr (inr (inr (inr p)))) = same_ends old new is p.3

  applied_ends : (old new : Life) (c : Change) (r : Result ℕ Refusal) → IsEndedAs P Q old → EndsBy r c → Applied old c r new → IsEndedAs P Q new
  applied_ends old new c (Ok n) is one told =
      subst (λ (x : Life). IsEndedAs P Q x) (sym told.2) (record { journal = each_more P old.journal c is.journal one; doubt = is.doubt })
  applied_ends old new c (Err e) is one told = refused_ends old new c e is one told

  suspend_ends : (Fits : Type 0) (old new : Life) (c : Change) (e : Refusal) → IsEndedAs P Q old → EndsAs Q c → SuspendRefused Fits old c e new → IsEndedAs P Q new
  suspend_ends Fits old new c e is one (inl p) = refused_ends old new c e is one p.1
  suspend_ends Fits old new c e is one (inr (inl p)) = same_ends old new is p.4
  suspend_ends Fits old new c e is one (inr (inr (inl p))) = same_ends old new is p.3
  suspend_ends Fits old new c e is one (inr (inr (inr (inl p)))) = same_ends old new is p.2
  suspend_ends Fits old new c e is one (inr (inr (inr (inr p)))) = same_ends old new is p.3

  mid_ends : (old : Life) (found : DurableState) → IsEndedAs P Q old → IsEndedAs P Q (record old { found = found })
  mid_ends old found is = record { journal = is.journal; doubt = is.doubt }

  suspended_ends : (Fits : Type 0) (old new : Life) (c : Change) (r : Result ℕ Refusal) → IsEndedAs P Q old → EndsBy r c → Suspended Fits old c r new → IsEndedAs P Q new
  suspended_ends Fits old new c (Ok n) is one did = applied_ends (record old { found = new.found }) new c (Ok n) (mid_ends old new.found is) one did.told.1
  suspended_ends Fits old new c (Err e) is one did = suspend_ends Fits (record old { found = new.found }) new c e (mid_ends old new.found is) one did.told

  -- ---- a call asks for such commands, by how it is answered
  module _ (size : Size) (s t : ArchState) (memory : List ℕ) (word : Word) where
    pub record Answers (call : Call) : Type 0 where
      pub reset : (type : ResetType) (cause : Reason) → AsksReset call type cause → word ≡ Over (ends.Reset type) → P (Reset cause)
      pub refused : (type : ResetType) (cause : Reason) → AsksReset call type cause → t ≡ answered s (error_of (Err Failed)) 0 → Q (Reset cause)
      pub slept : (site opaque : ℕ) → AsksSleep size call site opaque → word ≡ Over ends.Asleep → P (Suspend s.id site opaque memory)
      pub failed : (site opaque : ℕ) → AsksSleep size call site opaque → t ≡ answered s (error_of (Err Failed)) 0 → Q (Suspend s.id site opaque memory)

    reset_by : (kind number : ℕ) (reset : ResetType × Reason) (r : Result ℕ Refusal) → Answers (calls.SystemReset kind number) → reset_of kind number ≡ Ok reset → EndsReset reset.0 r s t word → EndsBy r (Reset reset.1)
    reset_by kind number reset (Ok n) so asks told = λ is. so.reset reset.0 reset.1 asks told.1
    reset_by kind number reset (Err e) so asks told = λ is. so.refused reset.0 reset.1 asks told.0

    sleeps_by : (kind address site opaque : ℕ) (r : Result ℕ Refusal) (fell : Result Sleep SbiError) (vs vs' : List HartView) → Answers (calls.SystemSuspend kind address opaque) → IsChecked size kind address (Ok (ToDisk, site)) → Settles s.id r vs fell vs' → EndsSleep fell s t word
        → EndsBy r (Suspend s.id site opaque memory)
    sleeps_by kind address site opaque (Ok n) fell vs vs' so checked settles told =
        let by = subst (λ (x : Result Sleep SbiError). EndsSleep x s t word) settles.0 told in
        λ is. so.slept site opaque (checked, refl) by.1
    sleeps_by kind address site opaque (Err e) fell vs vs' so checked settles told =
        let by = subst (λ (x : Result Sleep SbiError). EndsSleep x s t word) settles.0 told in
        λ is. so.failed site opaque (checked, refl) by.0

  -- ---- stores
  module _ {D L : Type 0} {g : Ghosts D L} {l : Lanes L} where
    abbrev Ended : Store D L g l → Type 0
    Ended s = IsEndedAs P Q (life_of s)

    store_same : (old new : Store D L g l) → Ended old → new ≡ old → Ended new
    store_same old new is same = subst (λ (s : Store D L g l). Ended s) (sym same) is

    asked_change : (old new : Store D L g l) (c : Change) (r : Result ℕ Refusal) (x : Option Change) → doubt_of old ≡ x → Ended old → EndsBy r c → Asked Applied old c r new → Ended new
    asked_change old new c r None e is one asked = applied_ends (life_of old) (life_of new) c r is one (asked.answered e).life
    asked_change old new c r (Some d) e is one asked = store_same old new is (asked.down d e).1

    -- once a command was asked for after which the life goes on
    pub asked_ends : (old new : Store D L g l) (c : Change) (r : Result ℕ Refusal) → ends_life c ≡ false → Ended old → Asked Applied old c r new → Ended new
    asked_ends old new c r goes is asked = asked_change old new c r (doubt_of old) refl is (going_by c r goes) asked

    slept_ends : (old new : Store D L g l) (Fits : Type 0) (c : Change) (r : Result ℕ Refusal) (x : Option Change) → doubt_of old ≡ x → Ended old → EndsBy r c → Asked (Suspended Fits) old c r new → Ended new
    slept_ends old new Fits c r None e is one asked = suspended_ends Fits (life_of old) (life_of new) c r is one (asked.answered e).life
    slept_ends old new Fits c r (Some d) e is one asked = store_same old new is (asked.down d e).1

    -- ---- a durable call: the store then, and the memory of the bus
    pub record Keeps (bus bus' : Bus) (new : Store D L g l) : Type 0 where
      pub ended : Ended new
      pub memory : bus'.ram ≡ bus.ram

    kept_both : (bus bus' : Bus) (old new : Store D L g l) → Ended old → new ≡ old → bus' ≡ bus → Keeps bus bus' new
    kept_both bus bus' old new is same stays = record { ended = store_same old new is same; memory = ap (λ (b : Bus). b.ram) stays }

    reset_keeps : (size : Size) (kind number : ℕ) (asked : Result (ResetType × Reason) SbiError) (s t : ArchState) (bus bus' : Bus) (old new : Store D L g l) (word : Word) → Ended old → Answers size s t bus.ram word (calls.SystemReset kind number) → reset_of kind number ≡ asked
        → MakesReset asked s t old new word → bus' ≡ bus → Keeps bus bus' new
    reset_keeps size kind number (Err e) s t bus bus' old new word is so asks p stays = kept_both bus bus' old new is p.1 stays
    reset_keeps size kind number (Ok reset) s t bus bus' old new word is so asks p stays =
        record { ended = asked_change old new (Reset reset.1) p.0 (doubt_of old) refl is (reset_by size s t bus.ram word kind number reset p.0 so asks p.2) p.1; memory = ap (λ (b : Bus). b.ram) stays }

    fallen_keeps : (size : Size) (kind address : ℕ) (sleep : Sleep) (site opaque : ℕ) (vs vs' : List HartView) (bus bus' : Bus) (fell : Result Sleep SbiError) (s t : ArchState) (old new : Store D L g l) (word : Word) → Ended old → Answers size s t bus.ram word (calls.SystemSuspend kind address opaque)
        → IsChecked size kind address (Ok (sleep, site)) → FallsAsleep sleep s.id site opaque vs bus old fell vs' bus' new → EndsSleep fell s t word → Keeps bus bus' new
    fallen_keeps size kind address ToRam site opaque vs vs' bus bus' fell s t old new word is so checked p told = record { ended = store_same old new is p.0.2; memory = ap (λ (b : Bus). b.ram) p.0.1 }
    fallen_keeps size kind address ToDisk site opaque vs vs' bus bus' fell s t old new word is so checked p told = record {
      ended = slept_ends old new (FitsBoard (size_of_store old) bus.ram s.id site) (Suspend s.id site opaque bus.ram) p.0 (doubt_of old) refl is (sleeps_by size s t bus.ram word kind address site opaque p.0 fell vs vs' so checked p.2 told) p.1;
      memory = ap (λ (b : Bus). b.ram) p.3;
    }

    slept_keeps : (harts : ℕ) (size : Size) (kind address : ℕ) (asked : Result (Sleep × ℕ) SbiError) (opaque : ℕ) (vs vs' : List HartView) (bus bus' : Bus) (fell : Result Sleep SbiError) (s t : ArchState) (old new : Store D L g l) (word : Word) → Ended old → Answers size s t bus.ram word (calls.SystemSuspend kind address opaque)
        → IsChecked size kind address asked → SleepsAt harts s.id asked opaque vs bus old fell vs' bus' new → EndsSleep fell s t word → Keeps bus bus' new
    slept_keeps harts size kind address (Err e) opaque vs vs' bus bus' fell s t old new word is so checked p told = kept_both bus bus' old new is p.3 p.2
    slept_keeps harts size kind address (Ok asked) opaque vs vs' bus bus' fell s t old new word is so checked p told =
        ⊎_elim (λ denied. kept_both bus bus' old new is denied.4 denied.3)
        (λ fallen. fallen_keeps size kind address asked.0 asked.1 opaque p.1 vs' bus bus' fell s t old new word is so checked fallen.1 told) p.3

    pub held_keeps : (harts : ℕ) (size : Size) (call : Call) (s t : ArchState) (k k' : Known) (bus bus' : Bus) (old new : Store D L g l) (word : Word) → size_of_store old ≡ size → Ended old → Answers size s t bus.ram word call
        → MakesHeld harts call s t k k' bus bus' old new word → Keeps bus bus' new
    held_keeps harts size (calls.SystemReset kind number) s t k k' bus bus' old new word board is so p = reset_keeps size kind number (reset_of kind number) s t bus bus' old new word is so refl p.0 p.2
    held_keeps harts size (calls.SystemSuspend kind address opaque) s t k k' bus bus' old new word board is so p =
        slept_keeps harts size kind address p.1.asked opaque k.harts k'.harts bus bus' p.0 s t old new word is so (subst (λ (z : Size). IsChecked z kind address p.1.asked) board p.1.checked) p.1.slept p.3
    held_keeps harts size call s t k k' bus bus' old new word board is so p = kept_both bus bus' old new is p.1 p.3

-- such a call leaves the memory of the bus
abbrev any : Change → Type 0
any c = Unit {0}

any_ends : (life : Life) → IsEndedAs any any life
any_ends life = record { journal = λ k c e is. tt; doubt = λ c e is. tt }

pub held_stays : {D L : Type 0} {g : Ghosts D L} {l : Lanes L} (harts : ℕ) (call : Call) (s t : ArchState) (k k' : Known) (bus bus' : Bus) (old new : Store D L g l) (word : Word) → MakesHeld harts call s t k k' bus bus' old new word → bus'.ram ≡ bus.ram
held_stays {D} {L} {g} {l} harts call s t k k' bus bus' old new word made =
    let so : Answers any any (size_of_store old) s t bus.ram word call = record { reset = λ type cause asks is. tt; refused = λ type cause asks is. tt; slept = λ site opaque asks is. tt; failed = λ site opaque asks is. tt } in
    (held_keeps any any harts (size_of_store old) call s t k k' bus bus' old new word refl (any_ends (life_of old)) so made).memory
