-- What a boot leaves of its store by its commands, acknowledged or refused, and by an image that is not loaded.
use Rattle.std.proofs.Common.{◌≡◌, ◌≢◌, ◌⊎◌, ◌∙◌, inl, inr, ⊎_elim, ℕ, ◌≤◌, List, [], ◌∷◌, ◌++◌, length, Option, None, Some, Bool, true, false, is_some, if◌then◌else◌, Result, Ok, Err, OnOk, IfErr, refl, sym, ap, subst, subst₂, append_assoc, append-nil, arith}
use Rattle.disk.specs.{Facts.{Content, Facts, LeavesSince, LeavesAfter, Passes, Stays, Failed}, FaultState.FaultState}
use Rattle.disk.specs.Moments.{leaves_none, leaves_then, leaves_weaker}
use Rattle.board_model.specs.{Durable.{DurableState, Change, Attempt, after, fold, ends_life, refusal_of}, Shapes.Size}
use Rattle.board_model.specs.declared.{boot_mode.BootMode.BootMode, durable.Trial.Trial, refusal.Refusal.Refusal}
use Rattle.board_model.specs.declared.refusal.Refusal.TheVariants.{Device, Down, BadShape, NoImage, BadImage}
use Rattle.board_model.specs.declared.boot_mode.BootMode.TheVariants as modes
use Rattle.store.specs.{Answers.{StoreView, Answered, StaysOpen, CountedRefusal}, Lives.{Life, now_of, Applied, Refused, LoadRefused}}
use Rattle.store.specs.{Leaves.{Leaves, LeavesOnly, IsKept, StandsForEither, WroteACommand}, Opens.CausedRefusal, Standing.StandsFor}
use Rattle.board.{specs.{Begins.Issues, Issues.{MayIssue, TakesCommands, AreIssued, AreStopped, drops_by}}, proofs.Unmoved.none_issued}
use Rattle.board.specs.Moments.{attempts_of, commands_by, gone_before, IsAlong, MayLeave, AreWritten}
use Rattle.board.specs.{Readies.{IsOpen, IsIssued, IsUnissued}, Unbooted.{doubt_by, IsLifeLeft, CountsRefusal}}
use Rattle.board.proofs.Moments.{IsNow, untouched_moments}

-- what a crash may leave where it leaves that state alone stands for it
pub stands_alone : (disk : Facts) (size : Size) (s : DurableState) → LeavesOnly disk size s → (x : Content) → disk.may_leave x → StandsFor x size s
unfolding IsKept Leaves
stands_alone disk size s left x may =
    let found = left.kept x may in
    subst (λ (t : DurableState). StandsFor x size t) ((left.only size found.0 (x, may, found.1)).1) found.1

-- ---- commands, one after another
pub fold_more : (s : DurableState) (cs ds : List Change) → fold s (cs ++ ds) ≡ fold (fold s cs) ds
fold_more s [] ds = refl
fold_more s (c ∷ cs) ds = fold_more (after s c) cs ds

along_more : (cs ds : List Change) (s t : DurableState) → IsAlong cs s t → IsAlong (cs ++ ds) s t
along_more [] [] s t is = is
along_more [] (d ∷ ds) s t is = inl is
along_more (c ∷ cs) ds s t (inl is) = inl is
along_more (c ∷ cs) ds s t (inr on) = inr (along_more cs ds (after s c) t on)

along_later : (cs ds : List Change) (s t : DurableState) → IsAlong ds (fold s cs) t → IsAlong (cs ++ ds) s t
along_later [] ds s t on = on
along_later (c ∷ cs) ds s t on = inr (along_later cs ds (after s c) t on)

may_more : (disk : Facts) (size : Size) (s : DurableState) (cs ds : List Change) → LeavesOnly disk size s → (x : Content) → MayIssue disk size s cs x → MayIssue disk size s (cs ++ ds) x
may_more disk size s [] [] only x left = left
may_more disk size s [] (d ∷ ds) only x left = (s, inl refl, stands_alone disk size s only x left)
may_more disk size s (c ∷ cs) ds only x left = (left.0, along_more (c ∷ cs) ds s left.0 left.1, left.2)

may_later : (old mid : Facts) (size : Size) (s : DurableState) (cs ds : List Change) → LeavesOnly old size s → ((x : Content) → mid.may_leave x → MayIssue old size s cs x) → (x : Content) → MayIssue mid size (fold s cs) ds x
    → MayIssue old size s (cs ++ ds) x
may_later old mid size s cs [] only first x left = may_more old size s cs [] only x (first x left)
may_later old mid size s [] (d ∷ ds) only first x left = left
may_later old mid size s (c ∷ cs) (d ∷ ds) only first x left = (left.0, along_later (c ∷ cs) (d ∷ ds) s left.0 left.1, left.2)

written_more : (size : Size) (cs ds : List Change) (s : DurableState) (x y z : Content) → AreWritten size s cs x y → AreWritten size (fold s cs) ds y z → AreWritten size s (cs ++ ds) x z
written_more size [] ds s x y z first second = subst (λ (w : Content). AreWritten size s ds w z) first.1 second
written_more size (c ∷ cs) ds s x y z first second =
    let on = first.1 in (first.0, (on.0, on.1, written_more size cs ds (after s c) on.0 y z on.2 second))

-- the moments of the later commands, over those of the first
module _ (cs ds : List Change) (old mid new : StoreView) (only : LeavesOnly old.disk old.size (now_of old.life)) (first : AreIssued cs old mid) where
  abbrev s : DurableState
  s = now_of old.life

  pub now_then : now_of mid.life ≡ fold s cs
  now_then = ap now_of first.life ∙ fold_more old.life.found old.life.journal cs

  moments_then : LeavesSince mid.disk new.disk (MayIssue mid.disk mid.size (now_of mid.life) ds) → LeavesSince old.disk new.disk (MayIssue old.disk old.size s (cs ++ ds))
  moments_then any =
      let P : Content → Type 0 = MayIssue old.disk old.size s (cs ++ ds) in
      let next : LeavesSince mid.disk new.disk (MayIssue mid.disk old.size (fold s cs) ds) =
      subst₂ (λ (z : Size) (t : DurableState). LeavesSince mid.disk new.disk (MayIssue mid.disk z t ds)) first.size now_then any in
      leaves_then old.disk mid.disk new.disk P
      (leaves_weaker old.disk mid.disk (MayIssue old.disk old.size s cs) P first.any_moment (may_more old.disk old.size s cs ds only))
      (leaves_weaker mid.disk new.disk (MayIssue mid.disk old.size (fold s cs) ds) P next (may_later old.disk mid.disk old.size s cs ds only first.any_moment.now))

  written_then : ((x : Content) → new.disk.may_leave x → LeavesAfter mid.disk (AreWritten mid.size (now_of mid.life) ds) x) → (x : Content) → new.disk.may_leave x → LeavesAfter old.disk (AreWritten old.size s (cs ++ ds)) x
  written_then later x left =
      let last = later x left in
      let was = first.written last.0 last.1 in (
        was.0,
        was.1,
        written_more old.size cs ds s was.0 last.0 x was.2
            (subst₂ (λ (z : Size) (t : DurableState). AreWritten z t ds last.0 x) first.size now_then last.2),
      )

  pub issued_then : AreIssued ds mid new → AreIssued (cs ++ ds) old new
  issued_then second = record {
    size = second.size ∙ first.size;
    life = second.life
        ∙ ap (λ (l : Life). record l { journal = l.journal ++ ds }) first.life
        ∙ ap (λ (js : List Change). record old.life { journal = js }) (append_assoc old.life.journal cs ds);
    only = second.only;
    any_moment = moments_then second.any_moment;
    written = written_then second.written;
    opened = second.opened ∙ first.opened;
    length = second.length ∙ first.length;
    none_out = second.none_out;
    cause = second.cause ∙ first.cause;
    no_failure = second.no_failure ∙ first.no_failure;
  }

  pub stopped_then : (e : Refusal) → AreStopped ds mid e new → AreStopped (cs ++ ds) old e new
  stopped_then e second = record {
    done = cs ++ second.done;
    later = second.later;
    parts = ap (λ (xs : List Change). cs ++ xs) second.parts ∙ sym (append_assoc cs second.done second.later);
    some = second.some;
    by_disk = second.by_disk;
    size = second.size ∙ first.size;
    life = second.life
        ∙ ap (λ (l : Life). record l { journal = l.journal ++ second.done; doubt = doubt_by e second.later }) first.life
        ∙ ap (λ (js : List Change). record old.life { journal = js; doubt = doubt_by e second.later }) (append_assoc old.life.journal cs second.done);
    any_moment = moments_then second.any_moment;
    opened = second.opened ∙ first.opened;
    length = second.length ∙ first.length;
    no_fewer = let none = first.no_failure in omega (arith, none, second.no_fewer);
    cause = subst (λ (m : FaultState). CausedRefusal m e new.fault_state) first.cause second.cause;
    failed = subst (λ (n : ℕ). Failed n new.disk.failures) first.no_failure second.failed;
  }

-- the first of some commands is also the first of those and more
doubt_more : (e : Refusal) (cs ds : List Change) → (cs ≡ [] → ⊥) → doubt_by e (cs ++ ds) ≡ doubt_by e cs
doubt_more e [] ds some = absurd (some refl)
doubt_more Down (c ∷ cs) ds some = refl
doubt_more e (c ∷ cs) ds some = refl

more_than_none : (cs ds : List Change) → (cs ≡ [] → ⊥) → cs ++ ds ≡ [] → ⊥
more_than_none [] ds some none = some refl
more_than_none (c ∷ cs) ds some none = cc

pub stopped_before : (cs ds : List Change) (old new : StoreView) (e : Refusal) → LeavesOnly old.disk old.size (now_of old.life) → AreStopped cs old e new → AreStopped (cs ++ ds) old e new
stopped_before cs ds old new e only is = record {
  done = is.done;
  later = is.later ++ ds;
  parts = ap (λ (xs : List Change). xs ++ ds) is.parts ∙ append_assoc is.done is.later ds;
  some = more_than_none is.later ds is.some;
  by_disk = is.by_disk;
  size = is.size;
  life = is.life ∙ ap (λ (d : Option Change). record old.life { journal = old.life.journal ++ is.done; doubt = d }) (sym (doubt_more e is.later ds is.some));
  any_moment = leaves_weaker old.disk new.disk (MayIssue old.disk old.size (now_of old.life) cs) (MayIssue old.disk old.size (now_of old.life) (cs ++ ds)) is.any_moment (may_more old.disk old.size (now_of old.life) cs ds only);
  opened = is.opened;
  length = is.length;
  no_fewer = is.no_fewer;
  cause = is.cause;
  failed = is.failed;
}

-- ---- no command
pub none_to_issue : (store : StoreView) → IsNow store.disk → TakesCommands store → AreIssued [] store store
none_to_issue store now takes = record {
  size = refl;
  life = ap (λ (js : List Change). record store.life { journal = js }) (sym (append-nil store.life.journal));
  only = takes.only;
  any_moment = leaves_none store.disk store.disk.may_leave now (λ x left. left);
  written = λ x left. (x, left, (stands_alone store.disk store.size (now_of store.life) takes.only x left, refl));
  opened = refl;
  length = refl;
  none_out = takes.none_out;
  cause = refl;
  no_failure = refl;
}

-- ---- one command
-- the disk's refusals of a command that the table takes, where no other is in doubt
disk_refused : (old new : Life) (c : Change) (e : Refusal) → old.over ≡ false → length old.journal ≤ 1 → refusal_of (now_of old) c ≡ None → Refused old c e new
    → ((e ≡ Device) × (new ≡ old)) ⊎ ((e ≡ Down) × (new ≡ record old { doubt = Some c }))
disk_refused old new c e going few free (inl device) = inl (device.0, device.2)
disk_refused old new c e going few free (inr (inl down)) = inr (down.0, down.2)
disk_refused old new c e going few free (inr (inr (inl over))) = absurd (let ended = over.1 in let no : ⊥ = cc in no)
disk_refused old new c e going few free (inr (inr (inr (inl full)))) = absurd (omega (arith, full.2, few))
disk_refused old new c e going few free (inr (inr (inr (inr table)))) = absurd (let why = table.0 in let no : ⊥ = cc in no)

module _ (c : Change) (old new : StoreView) (takes : TakesCommands old) (stays : StaysOpen old new) where
  abbrev here : DurableState
  here = now_of old.life

  along : (x : Content) → StandsForEither old.size here (after here c) x → (t : DurableState) × IsAlong (c ∷ []) here t × StandsFor x old.size t
  along x (inl stands) = (here, inl refl, stands)
  along x (inr stands) = (after here c, inr refl, stands)

  moments : LeavesSince old.disk new.disk (StandsForEither old.size here (after here c)) → LeavesSince old.disk new.disk (MayIssue old.disk old.size here (c ∷ []))
  moments any = leaves_weaker old.disk new.disk (StandsForEither old.size here (after here c)) (MayIssue old.disk old.size here (c ∷ [])) any along

  -- written over what a read gave
  wrote : old.disk.may_leave old.disk.content → LeavesOnly new.disk old.size (after here c) → WroteACommand old.disk new.disk → (x : Content) → new.disk.may_leave x → LeavesAfter old.disk (AreWritten old.size here (c ∷ [])) x
  unfolding WroteACommand
  wrote may now over x left =
      (old.disk.content, may, (stands_alone old.disk old.size here takes.only old.disk.content may, (x, over x left, (stands_alone new.disk old.size (after here c) now x left, refl))))

  pub one_issued : (n : ℕ) → old.disk.may_leave old.disk.content → ends_life c ≡ false → Answered Applied old c (Ok n) new → AreIssued (c ∷ []) old new
  one_issued n may goes did =
      let life : new.life ≡ record old.life { journal = old.life.journal ++ c ∷ [] } =
      did.life.2 ∙ ap (λ (b : Bool). record old.life { journal = old.life.journal ++ c ∷ []; over = b }) (goes ∙ sym takes.going) in
      let now : after here c ≡ now_of new.life = sym (fold_more old.life.found old.life.journal (c ∷ [])) ∙ sym (ap now_of life) in
      record {
        size = stays.board;
        life = life;
        only = subst₂ (LeavesOnly new.disk) (sym stays.board) now did.leaves.acknowledged;
        any_moment = moments did.leaves.any_moment;
        written = wrote may did.leaves.acknowledged did.written;
        opened = stays.opened;
        length = stays.length;
        none_out = stays.none_out;
        cause = did.cause;
        no_failure = did.counts;
      }

  abbrev with_doubt : Option Change → Life
  with_doubt d = record old.life { journal = old.life.journal ++ []; doubt = d }

  no_more : (d : Option Change) → record old.life { doubt = d } ≡ with_doubt d
  no_more d = ap (λ (js : List Change). record old.life { journal = js; doubt = d }) (sym (append-nil old.life.journal))

  -- by what the refusal leaves of the life
  stopped_by : (e : Refusal) → (e ≡ Device) ⊎ (e ≡ Down) → new.life ≡ with_doubt (doubt_by e (c ∷ [])) → Failed old.disk.failures new.disk.failures → Answered Applied old c (Err e) new → AreStopped (c ∷ []) old e new
  stopped_by e by_disk life failed did = record {
    done = [];
    later = c ∷ [];
    parts = refl;
    some = λ none. cc;
    by_disk = by_disk;
    size = stays.board;
    life = life;
    any_moment = moments did.leaves.any_moment;
    opened = stays.opened;
    length = stays.length;
    no_fewer = stays.no_fewer;
    cause = did.cause;
    failed = failed;
  }

  still_is : new.life ≡ old.life → new.life ≡ with_doubt None
  still_is still = still ∙ ap (λ (d : Option Change). record old.life { doubt = d }) takes.sure ∙ no_more None

  pub one_stopped : (e : Refusal) → refusal_of here c ≡ None → Answered Applied old c (Err e) new → AreStopped (c ∷ []) old e new
  one_stopped e free did =
      let Counted : Refusal → Type 0 = λ x. CountedRefusal old.disk.failures x new.disk.failures in
      let Is : Refusal → Type 0 = λ x. new.life ≡ with_doubt (doubt_by x (c ∷ [])) in
      ⊎_elim
      (λ device. stopped_by e (inl device.0) (subst Is (sym device.0) (still_is device.1)) (subst Counted device.0 did.counts) did)
      (λ down. stopped_by e (inr down.0) (subst Is (sym down.0) (down.1 ∙ no_more (Some c))) (subst Counted down.0 did.counts) did)
      (disk_refused old.life new.life c e takes.going takes.few free did.life)

-- ---- the commands of a mode
-- the image that is dropped leaves the trial
boots_by : (mode : BootMode) (s : DurableState) → mode ≢ modes.Resume → drops_by mode ++ attempts_of (fold s (drops_by mode)).trial ≡ commands_by mode s
boots_by modes.Fresh s boots = refl
boots_by modes.Keep s boots = refl
boots_by modes.Discard s boots = refl
boots_by modes.Resume s boots = absurd (boots refl)

may_leave : (disk : Facts) (size : Size) (s : DurableState) (cs : List Change) (x : Content) → MayIssue disk size s cs x → MayLeave disk size s cs x
may_leave disk size s [] x left = inl left
may_leave disk size s (c ∷ cs) x left = inr left

gone : (e : Refusal) (cs : List Change) → (e ≡ Device) ⊎ (e ≡ Down) → gone_before e cs ≡ cs
gone e cs (inl is) = ap (λ (x : Refusal). gone_before x cs) is
gone e cs (inr is) = ap (λ (x : Refusal). gone_before x cs) is

fails_so : (e : Refusal) (m n : ℕ) → (e ≡ Device) ⊎ (e ≡ Down) → Failed m n → CountsRefusal m e n
fails_so e m n (inl is) failed = subst (λ (x : Refusal). CountsRefusal m x n) (sym is) failed
fails_so e m n (inr is) failed = subst (λ (x : Refusal). CountsRefusal m x n) (sym is) failed

module _ (mode : BootMode) (old new : StoreView) (opened : IsOpen old) where
  abbrev found : DurableState
  found = old.life.found

  now_found : now_of old.life ≡ found
  now_found = ap now_of opened.begins

  pub takes_commands : TakesCommands old
  takes_commands = record {
    sure = ap (λ (l : Life). l.doubt) opened.begins;
    going = ap (λ (l : Life). l.over) opened.begins;
    few = let none : length old.life.journal ≡ 0 = ap (λ (l : Life). length l.journal) opened.begins in omega arith;
    only = subst (LeavesOnly old.disk old.size) (sym now_found) opened.only;
    none_out = opened.none_out;
  }

  moments_of : (cs : List Change) → LeavesSince old.disk new.disk (MayIssue old.disk old.size (now_of old.life) cs) → LeavesSince old.disk new.disk (MayLeave old.disk old.size found cs)
  moments_of cs any =
      leaves_weaker old.disk new.disk (MayIssue old.disk old.size found cs) (MayLeave old.disk old.size found cs)
      (subst (λ (t : DurableState). LeavesSince old.disk new.disk (MayIssue old.disk old.size t cs)) now_found any) (may_leave old.disk old.size found cs)

  pub is_issued : AreIssued (commands_by mode found) old new → IsIssued mode old new
  is_issued is = record {
    size = is.size;
    life = is.life ∙ ap (λ (l : Life). record l { journal = l.journal ++ commands_by mode found }) opened.begins;
    only = is.only;
    any_moment = moments_of (commands_by mode found) is.any_moment;
    written = subst (λ (t : DurableState). (x : Content) → new.disk.may_leave x → LeavesAfter old.disk (AreWritten old.size t (commands_by mode found)) x) now_found is.written;
    opened = is.opened;
    length = is.length;
    none_out = is.none_out;
    cause = is.cause;
    no_failure = is.no_failure;
  }

  life_left : (e : Refusal) → AreStopped (commands_by mode found) old e new → IsLifeLeft (commands_by mode found) e found new.life
  life_left e is = record {
    done = is.done;
    later = is.later;
    parts = is.parts;
    refused = λ none. absurd (is.some none);
    is = is.life ∙ ap (λ (l : Life). record l { journal = l.journal ++ is.done; doubt = doubt_by e is.later }) opened.begins;
    by_disk = λ device down. absurd (⊎_elim device down is.by_disk);
  }

  pub is_unissued : (e : Refusal) → AreStopped (commands_by mode found) old e new → IsUnissued mode old e new
  is_unissued e is = record {
    size = is.size;
    life = life_left e is;
    any_moment = subst (λ (cs : List Change). LeavesSince old.disk new.disk (MayLeave old.disk old.size found cs)) (sym (gone e (commands_by mode found) is.by_disk)) (moments_of (commands_by mode found) is.any_moment);
    opened = is.opened;
    length = is.length;
    no_fewer = is.no_fewer;
    cause = is.cause;
    counts = fails_so e old.disk.failures new.disk.failures is.by_disk is.failed;
  }

  pub issues : (e : Refusal) → AreStopped (commands_by mode found) old e new → Issues mode found
  issues e is none = none_of is.done is.later is.some (sym is.parts ∙ none)
    where
      none_of : (done later : List Change) → (later ≡ [] → ⊥) → done ++ later ≡ [] → ⊥
      none_of [] later some none = some none
      none_of (d ∷ done) later some none = cc

-- what the table takes of the state that was found it takes now
pub free_now : (store : StoreView) → IsOpen store → (c : Change) → refusal_of store.life.found c ≡ None → refusal_of (now_of store.life) c ≡ None
free_now store opened c free = subst (λ (t : DurableState). refusal_of t c ≡ None) (sym (ap now_of opened.begins)) free

-- a mode that drops no image
pub drops_none : (mode : BootMode) → (mode ≡ modes.Fresh) ⊎ (mode ≡ modes.Keep) ⊎ (mode ≡ modes.Resume) → drops_by mode ≡ []
drops_none mode (inl fresh) = ap drops_by fresh
drops_none mode (inr (inl keep)) = ap drops_by keep
drops_none mode (inr (inr resume)) = ap drops_by resume

pub none_dropped : (mode : BootMode) (store : StoreView) → IsNow store.disk → IsOpen store → (mode ≡ modes.Fresh) ⊎ (mode ≡ modes.Keep) ⊎ (mode ≡ modes.Resume) → AreIssued (drops_by mode) store store
none_dropped mode store now opened is = subst (λ (cs : List Change). AreIssued cs store store) (sym (drops_none mode is)) (none_to_issue store now (takes_commands mode store store opened))

-- a boot is counted where a trial stands
pub counts_boot : (trial : Option Trial) → is_some trial ≡ true → attempts_of trial ≡ Attempt ∷ []
counts_boot None is = absurd (let no : ⊥ = cc in no)
counts_boot (Some trial) is = refl

pub counts_none : (trial : Option Trial) → is_some trial ≡ false → attempts_of trial ≡ []
counts_none None is = refl
counts_none (Some trial) is = absurd (let no : ⊥ = cc in no)

pub attempt_taken : (s : DurableState) → is_some s.trial ≡ true → refusal_of s Attempt ≡ None
attempt_taken s is = ap (λ (b : Bool). if b then None else Some 20) is

-- the image was dropped where the mode asks for it, and then the boot is counted
module _ (mode : BootMode) (old mid new : StoreView) (opened : IsOpen old) (dropped : AreIssued (drops_by mode) old mid) where
  abbrev counted : List Change
  counted = attempts_of (now_of mid.life).trial

  pub commands_are : mode ≢ modes.Resume → drops_by mode ++ counted ≡ commands_by mode old.life.found
  commands_are boots =
      let only = (takes_commands mode old mid opened).only in
      ap (λ (t : DurableState). drops_by mode ++ attempts_of t.trial) (now_then (drops_by mode) counted old mid new only dropped ∙ ap (λ (t : DurableState). fold t (drops_by mode)) (ap now_of opened.begins)) ∙ boots_by mode old.life.found boots

  pub boot_issued : mode ≢ modes.Resume → AreIssued counted mid new → AreIssued (commands_by mode old.life.found) old new
  boot_issued boots is =
      subst (λ (cs : List Change). AreIssued cs old new) (commands_are boots) (issued_then (drops_by mode) counted old mid new (takes_commands mode old mid opened).only dropped is)

  pub boot_stopped : mode ≢ modes.Resume → (e : Refusal) → AreStopped counted mid e new → AreStopped (commands_by mode old.life.found) old e new
  boot_stopped boots e is =
      subst (λ (cs : List Change). AreStopped cs old e new) (commands_are boots) (stopped_then (drops_by mode) counted old mid new (takes_commands mode old mid opened).only dropped e is)

  -- by the answer
  pub boot_acknowledged : {T : Type 0} → mode ≢ modes.Resume → (r : Result T Refusal) → OnOk r (AreIssued counted mid new) → OnOk r (IsIssued mode old new)
  boot_acknowledged boots (Ok done) is = is_issued mode old new opened (boot_issued boots is)
  boot_acknowledged boots (Err e) is = tt

  pub boot_refused : {T : Type 0} → mode ≢ modes.Resume → (r : Result T Refusal) → IfErr r (λ e. AreStopped counted mid e new) → IfErr r (λ e. ((e ≡ Device) ⊎ (e ≡ Down)) × Issues mode old.life.found)
  boot_refused boots (Ok done) is = tt
  boot_refused boots (Err e) is = (is.by_disk, issues mode old new opened e (boot_stopped boots e is))

  pub boot_unissued : {T : Type 0} → mode ≢ modes.Resume → (r : Result T Refusal) → IfErr r (λ e. AreStopped counted mid e new) → IfErr r (λ e. IsUnissued mode old e new)
  boot_unissued boots (Ok done) is = tt
  boot_unissued boots (Err e) is = is_unissued mode old new opened e (boot_stopped boots e is)

-- the image was not dropped, and nothing is issued after it
pub drop_stopped : (mode : BootMode) (old new : StoreView) (e : Refusal) → IsOpen old → mode ≢ modes.Resume → AreStopped (drops_by mode) old e new → AreStopped (commands_by mode old.life.found) old e new
drop_stopped mode old new e opened boots is =
    let more = attempts_of (fold old.life.found (drops_by mode)).trial in
    subst (λ (cs : List Change). AreStopped cs old e new) (boots_by mode old.life.found boots) (stopped_before (drops_by mode) more old new e (takes_commands mode old new opened).only is)

-- ---- an image that is not loaded
-- what a load that was refused tells of the disk, and of what is in doubt
record Unloads (e : Refusal) (m n : FaultState) (a b : ℕ) : Type 0 where
  pub calm : (cs : List Change) → doubt_by e cs ≡ None
  pub cause : CausedRefusal m e n
  pub counts : CountsRefusal a e b

unloads : (size : Size) (state : DurableState) (memory : List ℕ) (old : Facts) (m : FaultState) (e : Refusal) (new : Facts) (n : FaultState) → LoadRefused size state memory old m e new n → Unloads e m n old.failures new.failures
unloads size state memory old m BadShape new n why = record { calm = λ cs. refl; cause = why.2; counts = omega (arith, why.1) }
unloads size state memory old m NoImage new n why = record { calm = λ cs. refl; cause = why.3; counts = omega (arith, why.2) }
unloads size state memory old m Device new n why = record { calm = λ cs. refl; cause = why.2; counts = why.1 }
unloads size state memory old m BadImage new n why = record { calm = λ cs. refl; cause = why.3; counts = omega (arith, why.2) }
unloads size state memory old m e new n why = absurd why

-- the image was not loaded, and nothing was issued
pub not_loaded : (mode : BootMode) (old new : StoreView) (state : DurableState) (memory : List ℕ) (e : Refusal) → IsNow old.disk → IsOpen old → StaysOpen old new
    → LoadRefused old.size state memory old.disk old.fault_state e new.disk new.fault_state → new.life ≡ old.life → Passes old.disk new.disk Stays → IsUnissued mode old e new
not_loaded mode old new state memory e now opened stays why still passes =
    let tells = unloads old.size state memory old.disk old.fault_state e new.disk new.fault_state why in
    record {
      size = stays.board;
      life = none_issued (commands_by mode old.life.found) e old.life.found new.life (still ∙ opened.begins) (tells.calm (commands_by mode old.life.found));
      any_moment = untouched_moments old.disk new.disk old.size old.life.found (gone_before e (commands_by mode old.life.found)) now passes;
      opened = stays.opened;
      length = stays.length;
      no_fewer = stays.no_fewer;
      cause = tells.cause;
      counts = tells.counts;
    }
