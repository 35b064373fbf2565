-- The command that ends a life, and the watch that may say that it is over.
use Rattle.std.proofs.Common.{◌≡◌, ◌∙◌, ◌&&◌, ◌-◌, get_or, ℕ, zero, suc, Bool, true, false, List, [], ◌∷◌, ◌++◌, Option, Some, None, Result, Ok, Err}
use Rattle.std.proofs.Common.{length, not, refl, sym, ap, subst, arith}
use Rattle.std.{specs.Prelude.{IfSome, slice_get}, proofs.Math.Logic.∥∥₁_elim}
use Rattle.atomic_table.specs.Seated.{TableId}
use Rattle.board_model.specs.Durable.{Change, Slot, Reset, Suspend, Consume, Discard, Tries, Good, Attempt, ends_life}
use Rattle.board_model.specs.{Shapes.Size, Views.{change_in, entry_of}}
use Rattle.board_model.specs.declared.{durable.Entry.Entry, refusal.Refusal.{Refusal, TheVariants.Down}}
use Rattle.board_model.specs.declared.durable.Entry.TheVariants as entries
use Rattle.disk.specs.{declared.{device.{Disk.Ghosts, Lane.{Ghosts as Lanes}}}}
use Rattle.hart.specs.State.{ArchState}
use Rattle.sbi.specs.{Helds.MakesHeld, declared.words.Word.{Word, TheVariants.{Goes, Over as IsOver}}}
use Rattle.sbi_abi.specs.declared.call.Call.{Call}
use Rattle.sbi_calls.specs.Both.{Known}
use Rattle.susp.specs.declared.buses.Bus.{Bus}
use Rattle.store.specs.{Asked.Asked, Lives.{Life, Applied, Suspended}, Views.{doubt_of, life_of}, declared.stores.Store.Store}
use Rattle.tallies.specs.{Books.Each, Closed.{AreStanding, StandsIn}, Halts.Watched}
use Rattle.hart_threads.specs.{Bused.IsSavedIn, Called.IsLastOf, LifeEnds.AllEndAs, Noted.entries_in, Threads.is_end}
use Rattle.hart_threads.specs.Over.{IsLastEnd, IsMarked, ends_at_last, none_ends}
use Rattle.hart_threads.proofs.{Answering.{Tells, held_told}, Lasting.split_last, Naming.{Adds, and_true, refused_stays, suspend_stays}}

-- ---- whether a command of a journal ends its life
none_more : (cs : List Change) (c : Change) → none_ends cs ≡ true → ends_life c ≡ false → none_ends (cs ++ c ∷ []) ≡ true
none_more [] c none goes = ap (λ (b : Bool). not b && true) goes
none_more (x ∷ cs) c none goes =
    let both = and_true (not (ends_life x)) (none_ends cs) none in
    subst (λ (b : Bool). b && none_ends (cs ++ c ∷ []) ≡ true) (sym both.0) (none_more cs c both.1 goes)

last_more : (cs : List Change) (c : Change) → none_ends cs ≡ true → ends_life c ≡ true → ends_at_last (cs ++ c ∷ []) ≡ true
last_more [] c none ends = ends
last_more (x ∷ []) c none ends = subst (λ (b : Bool). b && ends_life c ≡ true) (sym (and_true (not (ends_life x)) true none).0) ends
last_more (x ∷ y ∷ cs) c none ends =
    let both = and_true (not (ends_life x)) (none_ends (y ∷ cs)) none in
    subst (λ (b : Bool). b && ends_at_last ((y ∷ cs) ++ c ∷ []) ≡ true) (sym both.0) (last_more (y ∷ cs) c both.1 ends)

last_ends : (cs : List Change) (c : Change) → ends_at_last (cs ++ c ∷ []) ≡ true → ends_life c ≡ true
last_ends [] c ends = ends
last_ends (x ∷ []) c ends = (and_true (not (ends_life x)) (ends_life c) ends).1
last_ends (x ∷ y ∷ cs) c ends = last_ends (y ∷ cs) c (and_true (not (ends_life x)) (ends_at_last ((y ∷ cs) ++ c ∷ [])) ends).1

-- one after which the life goes on
goes_not : (b : Bool) → not b ≡ true → b ≡ true → ⊥
goes_not true not_so is = cc
goes_not false not_so is = cc

never_so : (b : Bool) → (b ≡ true → ⊥) → not b ≡ true
never_so true never = absurd (never refl)
never_so false never = refl

-- where none of the journal may be one
none_of : (P : Change → Type 0) (cs : List Change) → ((c : Change) → P c → ⊥) → AllEndAs P cs → none_ends cs ≡ true
none_of P [] never all = refl
none_of P (c ∷ cs) never all =
    subst (λ (b : Bool). b && none_ends cs ≡ true) (sym (never_so (ends_life c) (λ is. never c (all 0 c refl is)))) (none_of P cs never (λ k d e. all (suc k) d e))

-- ---- its entries
pub end_in : (e : Entry) (memory : List ℕ) → ends_life (change_in e memory) ≡ is_end e
end_in (entries.Command c) memory = refl
end_in (entries.Suspend hart address opaque) memory = refl

end_of_entry : (c : Change) → is_end (entry_of c) ≡ ends_life c
end_of_entry (Slot n) = refl
end_of_entry (Reset r) = refl
end_of_entry (Suspend hart address opaque memory) = refl
end_of_entry Consume = refl
end_of_entry Discard = refl
end_of_entry (Tries n boots) = refl
end_of_entry Good = refl
end_of_entry Attempt = refl

of_entry : (c : Change) → (memory : List ℕ) × (change_in (entry_of c) memory ≡ c)
of_entry (Slot n) = ([], refl)
of_entry (Reset r) = ([], refl)
of_entry (Suspend hart address opaque memory) = (memory, refl)
of_entry Consume = ([], refl)
of_entry Discard = ([], refl)
of_entry (Tries n boots) = ([], refl)
of_entry Good = ([], refl)
of_entry Attempt = ([], refl)

entry_or : Entry → Option Entry → Entry
entry_or e None = e
entry_or e (Some d) = d

some_entry : (d e : Entry) → Some d ≡ Some e → d ≡ e
unfolding entry_or
some_entry d e is = ap (λ (o : Option Entry). entry_or d o) is

-- the receipt of such a command, at its place
only_last : (c : Change) (e : Entry) → Some (entry_of c) ≡ Some e → IsLastOf (c ∷ []) 1 e
only_last c e is =
    let of = of_entry c in
    let same : c ≡ change_in e of.0 = sym of.1 ∙ ap (λ (x : Entry). change_in x of.0) (some_entry (entry_of c) e is) in
    (omega arith, refl, (of.0, same))

pub last_at : (journal : List Change) (k : ℕ) (e : Entry) → ends_at_last journal ≡ true → slice_get (entries_in journal) k ≡ Some e → is_end e ≡ true → IsLastOf journal (suc k) e
last_at [] k e ends at is = let no : ⊥ = cc in absurd no
last_at (c ∷ []) zero e ends at is = only_last c e at
last_at (c ∷ []) (suc k) e ends at is = let no : ⊥ = cc in absurd no
last_at (c ∷ d ∷ cs) zero e ends at is =
    let same = ap is_end (some_entry (entry_of c) e at) in
    absurd (goes_not (ends_life c) (and_true (not (ends_life c)) (ends_at_last (d ∷ cs)) ends).0 (sym (end_of_entry c) ∙ same ∙ is))
last_at (c ∷ d ∷ cs) (suc k) e ends at is =
    let rest = last_at (d ∷ cs) k e (and_true (not (ends_life c)) (ends_at_last (d ∷ cs)) ends).1 at is in
    let before : suc (suc k) - 1 ≡ suc k = omega arith in
    let shorter : suc k - 1 ≡ k = omega arith in
    let x = change_in e rest.2.0 in
    (omega arith, ap suc rest.1, (rest.2.0, ap (λ (n : ℕ). get_or (c ∷ d ∷ cs) n x) before ∙ sym (ap (λ (n : ℕ). get_or (d ∷ cs) n x) shorter) ∙ rest.2.1))

pub none_at : (journal : List Change) (k : ℕ) (e : Entry) → none_ends journal ≡ true → slice_get (entries_in journal) k ≡ Some e → is_end e ≡ true → ⊥
none_at [] k e none at is = cc
none_at (c ∷ cs) zero e none at is =
    let same = ap is_end (some_entry (entry_of c) e at) in
    goes_not (ends_life c) (and_true (not (ends_life c)) (none_ends cs) none).0 (sym (end_of_entry c) ∙ same ∙ is)
none_at (c ∷ cs) (suc k) e none at is = none_at cs k e (and_true (not (ends_life c)) (none_ends cs) none).1 at is

-- the last command of a journal that one ended
pub last_is_end : (journal : List Change) (n : ℕ) (e : Entry) → ends_at_last journal ≡ true → IsLastOf journal n e → is_end e ≡ true
last_is_end journal n e ends last =
    let c = change_in e last.2.0 in
    let long : length journal ≡ suc (n - 1) = omega (arith, last.0, last.1) in
    let s = split_last journal (n - 1) c long in
    let is : journal ≡ s.0 ++ c ∷ [] = s.1 ∙ ap (λ (x : Change). s.0 ++ x ∷ []) last.2.1 in
    sym (end_in e last.2.0) ∙ last_ends s.0 c (sym (ap ends_at_last is) ∙ ends)

-- ---- whether the life is over
-- by the answer to a command
abbrev pub OverTo : Change → Result ℕ Refusal → Bool → Bool → Type 0
OverTo c (Ok n) old new = (old ≡ false) × (new ≡ ends_life c)
OverTo c (Err e) old new = new ≡ old

applied_over : (old new : Life) (c : Change) (r : Result ℕ Refusal) → Applied old c r new → OverTo c r old.over new.over
applied_over old new c (Ok n) told = (told.0.0, ap (λ (x : Life). x.over) told.2)
applied_over old new c (Err e) told = (refused_stays old new c e told).over

suspended_over : (Fits : Type 0) (old new : Life) (c : Change) (r : Result ℕ Refusal) → Suspended Fits old c r new → OverTo c r old.over new.over
suspended_over Fits old new c (Ok n) did = applied_over (record old { found = new.found }) new c (Ok n) did.told.1
suspended_over Fits old new c (Err e) did = (suspend_stays Fits (record old { found = new.found }) new c e did.told).over

-- by what a durable call tells
abbrev pub OverBy : Word → Bool → Bool → Type 0
OverBy (Goes did) old new = new ≡ old
OverBy (IsOver end) old new = (old ≡ false) × (new ≡ true)

module _ {D L : Type 0} {g : Ghosts D L} {l : Lanes L} where
  abbrev over_in : Store D L g l → Bool
  over_in store = (life_of store).over

  down_over : (old new : Store D L g l) (c : Change) (r : Result ℕ Refusal) → (r ≡ Err Down) × (new ≡ old) → OverTo c r (over_in old) (over_in new)
  down_over old new c r down = subst (λ (x : Result ℕ Refusal). OverTo c x (over_in old) (over_in new)) (sym down.0) (ap over_in down.1)

  pub asked_over : (old new : Store D L g l) (c : Change) (r : Result ℕ Refusal) (x : Option Change) → doubt_of old ≡ x → Asked Applied old c r new → OverTo c r (over_in old) (over_in new)
  asked_over old new c r None e asked = applied_over (life_of old) (life_of new) c r (asked.answered e).life
  asked_over old new c r (Some d) e asked = down_over old new c r (asked.down d e)

  slept_over : (old new : Store D L g l) (Fits : Type 0) (c : Change) (r : Result ℕ Refusal) (x : Option Change) → doubt_of old ≡ x → Asked (Suspended Fits) old c r new → OverTo c r (over_in old) (over_in new)
  slept_over old new Fits c r None e asked = suspended_over Fits (life_of old) (life_of new) c r (asked.answered e).life
  slept_over old new Fits c r (Some d) e asked = down_over old new c r (asked.down d e)

  pub held_over : (harts : ℕ) (call : Call) (s t : ArchState) (k k' : Known) (bus bus' : Bus) (old new : Store D L g l) (word told : Word) → word ≡ told → MakesHeld harts call s t k k' bus bus' old new word → OverBy told (over_in old) (over_in new)
  held_over harts call s t k k' bus bus' old new word told is made =
      let After : Change → Result ℕ Refusal → Type 0 = λ c r. OverTo c r (over_in old) (over_in new) in
      let Told : Word → Type 0 = λ w. OverBy w (over_in old) (over_in new) in
      let so : Tells old new After Told = record {
        same = λ did same. ap over_in same;
        reset = λ cause r asked. asked_over old new (Reset cause) r (doubt_of old) refl asked;
        slept = λ by site opaque memory r asked. slept_over old new _ (Suspend by site opaque memory) r (doubt_of old) refl asked;
        over = λ c n end ends after. (after.0, after.1 ∙ ends);
        goes = λ c e did after. after;
      } in
      subst Told is (held_told old new After Told so harts call s t k k' bus bus' word made)

-- ---- the watch that may set the word
watch_or : Watched → Option Watched → Watched
watch_or w None = w
watch_or w (Some x) = x

some_watch : (w x : Watched) → Some w ≡ Some x → w ≡ x
unfolding watch_or
some_watch w x e = ap (λ (o : Option Watched). watch_or w o) e

pub marked_first : (over : TableId) (w : Watched) (life : Life) → w.of ≡ over → w.may_set ≡ true → none_ends life.journal ≡ true → IsMarked over (Some w) life
marked_first over w life of may none = record {
  going = λ x e. let same = some_watch w x e in (sym (ap (λ (y : Watched). y.of) same) ∙ of, sym (ap (λ (y : Watched). y.may_set) same) ∙ may, none);
  ended = λ e. absurd (cc);
}

pub marked_still : (over : TableId) (ender : Option Watched) (old new : Life) → new.over ≡ old.over → new.journal ≡ old.journal → IsMarked over ender old → IsMarked over ender new
marked_still over ender old new same journal was = record {
  going = λ w e. let is = was.going w e in (is.0, is.1, ap none_ends journal ∙ is.2);
  ended = λ e. let is = was.ended e in (same ∙ is.0, ap ends_at_last journal ∙ is.1);
}

-- once a command was asked for after which the life goes on
pub marked_more : (over : TableId) (ender : Option Watched) (old new : Life) (c : Change) (r : Result ℕ Refusal) → ends_life c ≡ false → OverTo c r old.over new.over → Adds c r old.journal new.journal → IsMarked over ender old → IsMarked over ender new
marked_more over ender old new c (Ok n) goes turns adds was = record {
  going = λ w e. let is = was.going w e in (is.0, is.1, ap none_ends adds.0 ∙ none_more old.journal c is.2 goes);
  ended = λ e. let is = (was.ended e).0 in let was_not = turns.0 in let no : ⊥ = cc (is, was_not) in absurd no;
}
marked_more over ender old new c (Err e) goes turns adds was = marked_still over ender old new turns adds was

-- until a command ends the life it is there, and then it is used up
pub ender_there : (over : TableId) (ender : Option Watched) (life : Life) → life.over ≡ false → IsMarked over ender life → ender ≡ None → ⊥
ender_there over ender life going was none = let is = (was.ended none).0 in cc (is, going)

marked_end : (over : TableId) (ender : Option Watched) (w : Watched) (old new : Life) (c : Change) → ender ≡ Some w → ends_life c ≡ true → new.over ≡ true → new.journal ≡ old.journal ++ c ∷ [] → IsMarked over ender old → IsMarked over None new
marked_end over ender w old new c there ends is grown was = record {
  going = λ x e. absurd (cc);
  ended = λ e. (is, ap ends_at_last grown ∙ last_more old.journal c (was.going w there).2 ends);
}

-- with the command that ends the life
pub marked_used : (over : TableId) (ender o : Option Watched) (old new : Life) (c : Change) → ender ≡ o → ends_life c ≡ true → old.over ≡ false → new.over ≡ true → new.journal ≡ old.journal ++ c ∷ [] → IsMarked over ender old → IsMarked over None new
marked_used over ender None old new c there ends going is grown was = absurd (ender_there over ender old going was there)
marked_used over ender (Some w) old new c there ends going is grown was = marked_end over ender w old new c there ends is grown was

-- ---- what was told of a life
one_last : (over : TableId) (ender o : Option Watched) (life : Life) (t : ℕ × Entry) → ender ≡ o → IsMarked over ender life → StandsIn (entries_in life.journal) t → IsLastEnd life.journal t
one_last over ender (Some w) life t is marked stands = λ ends. absurd (none_at life.journal stands.0 t.1 (marked.going w is).2 stands.2 ends)
one_last over ender None life t is marked stands = λ ends.
    subst (λ (n : ℕ). IsLastOf life.journal n t.1) (sym stands.1) (last_at life.journal stands.0 t.1 (marked.ended is).1 stands.2 ends)

pub all_last : (over : TableId) (ender : Option Watched) (life : Life) (told : List (ℕ × Entry)) → IsMarked over ender life → AreStanding (entries_in life.journal) told → Each (IsLastEnd life.journal) told
all_last over ender life [] marked stand = tt
all_last over ender life (t ∷ ts) marked stand = (one_last over ender ender life t refl marked stand.0, all_last over ender life ts marked stand.1)

-- a fact of the watch that is there
pub if_there : (P : Watched → Type 0) (ender : Option Watched) → ((w : Watched) → ender ≡ Some w → P w) → IfSome ender P
if_there P None all = tt
if_there P (Some w) all = all w refl

-- a life of which no moment was told
nobody : ∥ ⊥ ∥₁ → ⊥
nobody never = ∥∥₁_elim never (λ a b. absurd a) (λ n. n)

pub none_told : (size : Size) (life : Life) → IsSavedIn size [] life → none_ends life.journal ≡ true
none_told size life saved = none_of _ life.journal (λ c told. nobody told) saved.journal

pub none_if : (o : Option Watched) → ((w : Watched) → o ≡ Some w → ⊥) → o ≡ None
none_if None never = refl
none_if (Some w) never = absurd (never w refl)
