-- What is in doubt of a life: a command puts itself there, where none was, and is then refused 6.
use Rattle.std.proofs.Common.{◌≡◌, ◌∙◌, ◌⊎◌, ⊎_elim, inl, inr, ℕ, zero, suc, Bool, true, false, List, [], ◌∷◌, ◌++◌, Option, Some, None, Result, Ok, Err, refl, sym, ap, subst, arith}
use Rattle.std.specs.{Prelude.{MatchOption, IfSome, is_none, slice_get}, Option.option_to_list}
use Rattle.board_model.specs.{Durable.{Change, Slot, Reset, Suspend, Consume, Discard, Tries, Good, Attempt}, Shapes.Size}
use Rattle.board_model.{specs.Views.{change_in, change_of, entry_of}, proofs.Steps.{entry_of_change, entry_of_command}}
use Rattle.board_model.specs.declared.{durable.{Command.Command, Entry.Entry, Reason.Reason}, refusal.Refusal.{Refusal, TheVariants.Down}}
use Rattle.board_model.specs.declared.durable.Entry.TheVariants as entries
use Rattle.disk.specs.{declared.{device.{Disk.Ghosts, Lane.{Ghosts as Lanes}}}}
use Rattle.hart.specs.State.{ArchState}
use Rattle.hsm.specs.Words.{HartView}
use Rattle.store.specs.{Asked.Asked, Follows.FitsBoard, Lives.{Life, Applied, Refused, Suspended, SuspendRefused}}
use Rattle.store.specs.{Views.{life_of, doubt_of, size_of_store, failures_at_open}, declared.stores.Store.Store}
use Rattle.sbi_abi.specs.declared.{call.Call.Call, ret.SbiError.SbiError}
use Rattle.sbi_abi.specs.declared.call.Call.TheVariants as calls
use Rattle.sbi_calls.specs.Both.{Known}
use Rattle.susp.specs.{Checks.IsChecked, Sleeps.{FallsAsleep, SleepsAt}, declared.{buses.Bus.Bus, sleeps.Sleep.Sleep}}
use Rattle.susp.specs.declared.sleeps.Sleep.TheVariants.{ToRam, ToDisk}
use Rattle.sbi.specs.{declared.{words.Word.Word, resets.ResetType.ResetType}, Resets.reset_of, Helds.{MakesReset, MakesHeld}}
use Rattle.sbi.specs.declared.words.LifeEnd.TheVariants as ends
use Rattle.tallies.specs.Closed.{AreStanding, AreReceiptsOf}
use Rattle.hart_threads.specs.Doubts.{HartAsksFor, IsDoubtOf, AreAskedByHarts, doubt_told, newly_down, noted_by, noted_if}
use Rattle.hart_threads.specs.Noted.{entries_in}

some_or : {A : Type 0} → A → Option A → A
some_or a None = a
some_or a (Some b) = b

some_is : {A : Type 0} (a b : A) → Some a ≡ Some b → a ≡ b
unfolding some_or
some_is a b e = ap (some_or a) e

-- ---- lives
-- the doubt stays; or there was none, the command is in doubt, and it was refused 6
abbrev pub Turns : Change → Result ℕ Refusal → Option Change → Option Change → Type 0
Turns c r old new = (new ≡ old) ⊎ ((old ≡ None) × (new ≡ Some c) × (r ≡ Err Down))

stays : (c : Change) (r : Result ℕ Refusal) (old new : Life) → new ≡ old → Turns c r old.doubt new.doubt
stays c r old new same = inl (ap (λ (x : Life). x.doubt) same)

refused_turns : (old new : Life) (c : Change) (e : Refusal) → old.doubt ≡ None → Refused old c e new → Turns c (Err e) old.doubt new.doubt
refused_turns old new c e up (inl p) = stays c (Err e) old new p.2
refused_turns old new c e up (inr (inl p)) = inr (up, ap (λ (x : Life). x.doubt) p.2, ap (λ (x : Refusal). Err x) p.0)
refused_turns old new c e up (inr (inr (inl p))) = stays c (Err e) old new p.2
refused_turns old new c e up (inr (inr (inr (inl p)))) = stays c (Err e) old new p.3
refused_turns old new c e up (inr (inr (inr (inr p)))) = stays c (Err e) old new p.3

applied_turns : (old new : Life) (c : Change) (r : Result ℕ Refusal) → old.doubt ≡ None → Applied old c r new → Turns c r old.doubt new.doubt
applied_turns old new c (Ok n) up told = inl (ap (λ (x : Life). x.doubt) told.2)
applied_turns old new c (Err e) up told = refused_turns old new c e up told

suspend_turns : (Fits : Type 0) (old new : Life) (c : Change) (e : Refusal) → old.doubt ≡ None → SuspendRefused Fits old c e new → Turns c (Err e) old.doubt new.doubt
suspend_turns Fits old new c e up (inl p) = refused_turns old new c e up p.1
suspend_turns Fits old new c e up (inr (inl p)) = stays c (Err e) old new p.4
suspend_turns Fits old new c e up (inr (inr (inl p))) = stays c (Err e) old new p.3
suspend_turns Fits old new c e up (inr (inr (inr (inl p)))) = stays c (Err e) old new p.2
suspend_turns Fits old new c e up (inr (inr (inr (inr p)))) = stays c (Err e) old new p.3

suspended_turns : (Fits : Type 0) (old new : Life) (c : Change) (r : Result ℕ Refusal) → old.doubt ≡ None → Suspended Fits old c r new → Turns c r old.doubt new.doubt
suspended_turns Fits old new c (Ok n) up did = applied_turns (record old { found = new.found }) new c (Ok n) up did.told.1
suspended_turns Fits old new c (Err e) up did = suspend_turns Fits (record old { found = new.found }) new c e up did.told

-- the doubt stays; or there was none, and a call of a hart asks for the command that is in doubt
abbrev pub HartTurns : Size → Option Change → Option Change → Type 0
HartTurns size old new = (new ≡ old) ⊎ ((old ≡ None) × ((c : Change) × (new ≡ Some c) × HartAsksFor size (entry_of c)))

by_hart : (size : Size) (c : Change) (r : Result ℕ Refusal) (old new : Option Change) → HartAsksFor size (entry_of c) → Turns c r old new → HartTurns size old new
by_hart size c r old new asks (inl same) = inl same
by_hart size c r old new asks (inr newly) = inr (newly.0, (c, newly.1, asks))

-- ---- stores
module _ {D L : Type 0} {g : Ghosts D L} {l : Lanes L} where
  pub asked_turns : (old new : Store D L g l) (c : Change) (r : Result ℕ Refusal) (x : Option Change) → doubt_of old ≡ x → Asked Applied old c r new → Turns c r (doubt_of old) (doubt_of new)
  asked_turns old new c r None e asked = applied_turns (life_of old) (life_of new) c r e (asked.answered e).life
  asked_turns old new c r (Some d) e asked = inl (ap (λ (s : Store D L g l). doubt_of s) (asked.down d e).1)

  slept_turns : (old new : Store D L g l) (Fits : Type 0) (c : Change) (r : Result ℕ Refusal) (x : Option Change) → doubt_of old ≡ x → Asked (Suspended Fits) old c r new → Turns c r (doubt_of old) (doubt_of new)
  slept_turns old new Fits c r None e asked = suspended_turns Fits (life_of old) (life_of new) c r e (asked.answered e).life
  slept_turns old new Fits c r (Some d) e asked = inl (ap (λ (s : Store D L g l). doubt_of s) (asked.down d e).1)

  -- ---- a durable call
  pub record Held (size : Size) (old new : Store D L g l) : Type 0 where
    pub turns : HartTurns size (doubt_of old) (doubt_of new)
    pub opened : failures_at_open new ≡ failures_at_open old

  same_held : (size : Size) (old new : Store D L g l) → new ≡ old → Held size old new
  same_held size old new same = record {
    turns = inl (ap (λ (s : Store D L g l). doubt_of s) same);
    opened = ap (λ (s : Store D L g l). failures_at_open s) same;
  }

  reset_held : (size : Size) (kind number by : ℕ) (asked : Result (ResetType × Reason) SbiError) (s t : ArchState) (old new : Store D L g l) (word : Word) → reset_of kind number ≡ asked → MakesReset asked s t old new word → Held size old new
  reset_held size kind number by (Err e) s t old new word asks p = same_held size old new p.1
  reset_held size kind number by (Ok reset) s t old new word asks p = record {
    turns = by_hart size (Reset reset.1) p.0 (doubt_of old) (doubt_of new) (calls.SystemReset kind number, by, ends.Reset reset.0, (reset.1, asks, refl))
        (asked_turns old new (Reset reset.1) p.0 (doubt_of old) refl p.1);
    opened = p.1.stays.opened;
  }

  fallen_held : (size : Size) (sleep : Sleep) (kind address by site opaque : ℕ) (vs vs' : List HartView) (bus bus' : Bus) (fell : Result Sleep SbiError) (old new : Store D L g l) → IsChecked size kind address (Ok (sleep, site)) → FallsAsleep sleep by site opaque vs bus old fell vs' bus' new → Held size old new
  fallen_held size ToRam kind address by site opaque vs vs' bus bus' fell old new checked p = same_held size old new p.0.2
  fallen_held size ToDisk kind address by site opaque vs vs' bus bus' fell old new checked p = record {
    turns = by_hart size (Suspend by site opaque bus.ram) p.0 (doubt_of old) (doubt_of new) (calls.SystemSuspend kind address opaque, by, ends.Asleep, (site, opaque, (checked, refl), refl))
        (slept_turns old new (FitsBoard (size_of_store old) bus.ram by site) (Suspend by site opaque bus.ram) p.0 (doubt_of old) refl p.1);
    opened = p.1.stays.opened;
  }

  slept_held : (size : Size) (harts kind address by : ℕ) (asked : Result (Sleep × ℕ) SbiError) (opaque : ℕ) (vs vs' : List HartView) (bus bus' : Bus) (fell : Result Sleep SbiError) (old new : Store D L g l) → IsChecked size kind address asked → SleepsAt harts by asked opaque vs bus old fell vs' bus' new → Held size old new
  slept_held size harts kind address by (Err e) opaque vs vs' bus bus' fell old new checked p = same_held size old new p.3
  slept_held size harts kind address by (Ok asked) opaque vs vs' bus bus' fell old new checked p =
      ⊎_elim (λ denied. same_held size old new denied.4) (λ fallen. fallen_held size asked.0 kind address by asked.1 opaque p.1 vs' bus bus' fell old new checked fallen.1) p.3

  pub held : (size : Size) (harts : ℕ) (call : Call) (s t : ArchState) (k k' : Known) (bus bus' : Bus) (old new : Store D L g l) (word : Word) → size_of_store old ≡ size → MakesHeld harts call s t k k' bus bus' old new word → Held size old new
  held size harts (calls.SystemReset kind cause) s t k k' bus bus' old new word is p = reset_held size kind cause s.id (reset_of kind cause) s t old new word refl p.0
  held size harts (calls.SystemSuspend kind address opaque) s t k k' bus bus' old new word is p =
      slept_held size harts kind address s.id p.1.asked opaque k.harts k'.harts bus bus' p.0 old new (subst (λ (z : Size). IsChecked z kind address p.1.asked) is p.1.checked) p.1.slept
  held size harts call s t k k' bus bus' old new word is p = same_held size old new p.1

-- ---- the book of doubts
not_both : (o : Option Change) → newly_down o o ≡ false
not_both None = refl
not_both (Some c) = refl

-- one that was acknowledged is not in doubt
pub ok_stays : (c : Change) (n : ℕ) (old new : Option Change) → Turns c (Ok n) old new → new ≡ old
ok_stays c n old new (inl same) = same
ok_stays c n old new (inr newly) = let at = newly.2 in let no : ⊥ = cc (at) in absurd no

-- a command of the console
pub told_on : (command : Command) (r : Result ℕ Refusal) (old new : Option Change) (was now : List Entry) → Turns (change_of command) r old new → was ≡ entries_in (option_to_list old)
    → now ≡ noted_if (newly_down old new) (entries.Command command) was → now ≡ entries_in (option_to_list new)
told_on command r old new was now (inl same) before is =
    let no : newly_down old new ≡ false = ap (λ (o : Option Change). newly_down old o) same ∙ not_both old in
    is ∙ ap (λ (b : Bool). noted_if b (entries.Command command) was) no ∙ before ∙ sym (ap (λ (o : Option Change). entries_in (option_to_list o)) same)
told_on command r old new was now (inr newly) before is =
    let yes : newly_down old new ≡ true = ap (λ (o : Option Change). newly_down o new) newly.0 ∙ ap (λ (o : Option Change). newly_down None o) newly.1 in
    is ∙ ap (λ (b : Bool). noted_if b (entries.Command command) was) yes ∙ ap (λ (e : Entry). e ∷ []) (sym (entry_of_command command)) ∙ sym (ap (λ (o : Option Change). entries_in (option_to_list o)) newly.1)

-- the book stays
pub still_noted : (old new : Option Change) (noted : List Entry) → new ≡ old → noted ≡ entries_in (option_to_list old) → noted ≡ entries_in (option_to_list new)
still_noted old new noted same was = was ∙ sym (ap (λ (o : Option Change). entries_in (option_to_list o)) same)

-- what a store says of its doubt
abbrev pub Says : Option Entry → Option Change → Type 0
Says found doubt = MatchOption found (doubt ≡ None) (λ e. (memory : List ℕ) × (doubt ≡ Some (change_in e memory)))

pub hart_asks : (size : Size) (old new : Option Change) (found : Option Entry) → Says found new → HartTurns size old new → is_none old ≡ true → IfSome found (λ e. HartAsksFor size e)
hart_asks size old new None says turns up = tt
hart_asks size None new (Some e) says (inl same) up = let no : ⊥ = cc (says.1, same) in absurd no
hart_asks size (Some d) new (Some e) says (inl same) up = let no : ⊥ = cc in absurd no
hart_asks size old new (Some e) says (inr newly) up =
    let c = newly.1 in
    let is : c.0 ≡ change_in e says.0 = some_is c.0 (change_in e says.0) (sym c.1 ∙ says.1) in
    let same : entry_of c.0 ≡ e = ap entry_of is ∙ entry_of_change e says.0 in
    subst (λ (x : Entry). HartAsksFor size x) same c.2

pub noted_on : (size : Size) (old new : Option Change) (found : Option Entry) (was now : List Entry) → Says found new → HartTurns size old new → was ≡ entries_in (option_to_list old)
    → now ≡ noted_by (is_none old) found was → now ≡ entries_in (option_to_list new)
noted_on size None new None was now says turns before is = is ∙ before ∙ sym (ap (λ (o : Option Change). entries_in (option_to_list o)) says)
noted_on size None new (Some e) was now says turns before is =
    is ∙ ap (λ (x : Entry). x ∷ []) (sym (entry_of_change e says.0)) ∙ sym (ap (λ (o : Option Change). entries_in (option_to_list o)) says.1)
noted_on size (Some d) new found was now says (inl same) before is = is ∙ before ∙ sym (ap (λ (o : Option Change). entries_in (option_to_list o)) same)
noted_on size (Some d) new found was now says (inr newly) before is = let no : ⊥ = cc (newly.0) in absurd no

-- nothing that stands in an empty journal was told
pub none_told : (ts : List (ℕ × Entry)) → AreStanding [] ts → ts ≡ []
none_told [] all = refl
none_told (t ∷ ts) all = let at = all.0.2 in let no : ⊥ = cc (at) in absurd no

-- ---- its end
as_change : Entry → Change
as_change (entries.Command x) = change_of x
as_change (entries.Suspend h a o) = Suspend h a o []

command_entry : (command : Command) (c : Change) → entry_of c ≡ entries.Command command → c ≡ change_of command
unfolding as_change
command_entry command (Suspend h a o m) e = let no : ⊥ = cc in absurd no
command_entry command (Slot n) e = ap as_change e
command_entry command (Reset r) e = ap as_change e
command_entry command Consume e = ap as_change e
command_entry command Discard e = ap as_change e
command_entry command (Tries n boots) e = ap as_change e
command_entry command Good e = ap as_change e
command_entry command Attempt e = ap as_change e

first_is : (e : Entry) (k : ℕ) (x : Entry) → 1 ≡ suc k → slice_get (e ∷ []) k ≡ Some x → e ≡ x
first_is e zero x one at = some_is e x at
first_is e (suc k) x one at = absurd (omega (arith, one))

asked_of : (size : Size) (ts : List (ℕ × Entry)) (i : ℕ) (t : ℕ × Entry) → AreAskedByHarts size ts → slice_get ts i ≡ Some t → HartAsksFor size t.1
asked_of size [] i t all at = let no : ⊥ = cc in absurd no
asked_of size (x ∷ ts) zero t all at = subst (λ (y : ℕ × Entry). HartAsksFor size y.1) (some_is x t at) all.0
asked_of size (x ∷ ts) (suc i) t all at = asked_of size ts i t all.1 at

pub doubt_is : (size : Size) (doubt : Option Change) (console : Option Command) (harts : List (ℕ × Entry)) → AreAskedByHarts size harts → AreReceiptsOf (entries_in (option_to_list doubt)) (doubt_told console ++ harts)
    → IsDoubtOf size doubt console
doubt_is size None None harts asked all = tt
doubt_is size (Some c) None harts asked all =
    let at = all.all 0 (entry_of c) refl in
    asked_of size harts at.0 (1, entry_of c) asked at.1
doubt_is size None (Some command) harts asked all = let at = all.stand.0.2 in let no : ⊥ = cc (at) in absurd no
doubt_is size (Some c) (Some command) harts asked all = ap (λ (x : Change). Some x) (command_entry command c (let at = all.stand.0 in first_is (entry_of c) at.0 (entries.Command command) at.1 at.2))
