-- What is made of a disk on the way to a board that is on, and what a board that is not on, or a life that has
-- ended, leaves of it.
use Rattle.std.proofs.Common.{◌≡◌, ◌⊎◌, ◌≤◌, ◌&&◌, inl, inr, ℕ, Bool, true, false, List, [], ◌++◌, Option, Some, None, length, drop, arith, ap, refl, sym, ◌∙◌, subst, subst₂}
use Rattle.std.{proofs.lemmas.List.take-append-drop, specs.Prelude.{is_none, is_some, if◌then◌else◌}}
use Rattle.board_model.specs.{Durable.{DurableState, Change, Attempt, Consume, Discard, after, fold, formatted}, Shapes.Size}
use Rattle.board_model.specs.declared.{boot_mode.BootMode.BootMode, durable.{Command.Command, Durable.Durable, Trial.Trial, Entry.Entry}}
use Rattle.board_model.specs.{declared.refusal.Refusal.{Refusal, TheVariants.{Device, Down, Memory}}, Views.number_of_refusal}
use Rattle.disk.specs.Facts.{Content, Facts, Failed, LeavesSince, Passes, Stays}
use Rattle.store.specs.{Leaves.{IsBlank, IsKept, IsMarked, LeavesEither, LeavesOnly, LeftAsBefore, NoMore}, Answers.StoreView}
use Rattle.store.specs.{Opens.{OpenRefused, FormatRefused}, Formats.WritesHead, Standing.StandsFor, Lives.{Life, now_of}, Taken.are_taken}
use Rattle.board.specs.{Begins.RefusesBoot, PowersOn.{IsOn, IsUnpowered}, Unbooted.{doubt_by, LeavesLife}, Boots.{boot_refusal, life_after}}
use Rattle.board.{specs.Moments.{MayLeave, attempts_of, commands_by}, proofs.Few.{few_commands, left_at}}
use Rattle.machine.specs.Machine.{Machine}
use Rattle.board_model.specs.declared.boot_mode.BootMode.TheVariants as modes
use Rattle.hart_threads.{specs.{Legal.BeginsWith, LifeEnds.{AllEndAs, IsEndedAs}}, proofs.LifeEnding.{none_end, more_end, going_on}}
use Rattle.board_session.specs.Sessions.{Begins, Allows, TakesFormat, RunsOver, RefusesNew, RefusesDisk, IsOfLife, IsBooted}

-- ---- of a format
-- what the law of kept disks says where a crash leaves no more than before, or its state in a record of version 2
abbrev pub GoesOn : Facts → Facts → Type 0
GoesOn old new =
    ((c : Content) → new.may_leave c → LeftAsBefore old c)
    → (IsBlank old → IsBlank new) × ((size : Size) → IsKept old size → IsKept new size) × NoMore old new

-- a disk with the mark stays as it is, and so one that is kept
pub format_keeps : (old new : Facts) → (IsMarked old.content → Passes old new Stays × (new.content ≡ old.content)) → GoesOn old new → ((size : Size) → IsKept old size → IsMarked old.content)
    → (size : Size) → IsKept old size → IsKept new size
format_keeps old new marked goes_on is_marked size kept =
    let stays = (marked (is_marked size kept)).0 in
    (goes_on (λ c left. inl (let from = stays.now c left in subst old.may_leave (sym from.2) from.1))).1 size kept

-- ---- of a life that has ended
pub life_leaves : (doubt : Option Change) (disk : Facts) (size : Size) (s : DurableState) → (doubt ≡ None → LeavesOnly disk size s) → ((c : Change) → doubt ≡ Some c → LeavesEither disk size s (after s c)) → LeavesLife doubt disk size s
life_leaves None disk size s up down = up refl
life_leaves (Some c) disk size s up down = down c refl

pub life_kept : (doubt : Option Change) (disk : Facts) (size : Size) (s : DurableState) → LeavesLife doubt disk size s → IsKept disk size
life_kept None disk size s left = left.kept
life_kept (Some c) disk size s left = left.kept

pub kept_reads : (disk : Facts) (size : Size) → IsKept disk size → disk.may_leave disk.content → (s : DurableState) × StandsFor disk.content size s
unfolding IsKept
kept_reads disk size kept may_keep = kept disk.content may_keep

pub of_life_kept : (size : Size) (found : DurableState) (issued : List Change) (failures : ℕ) (earlier : ℕ → Content → Type 0) (moment : ℕ) (moments : List ℕ) (told : List (ℕ × Entry)) (doubtful : Option Command) (disk : Facts) → IsOfLife size found issued failures earlier moment moments told doubtful disk → (z : Size) × IsKept disk z
of_life_kept size found issued failures earlier moment moments told doubtful disk is = (size, life_kept is.doubt disk size (fold found is.journal) is.leaves)

-- the boot of an old disk is over
pub booted : (new : Bool) (old disk : Facts) (size : Size) (found : DurableState) (issued : List Change) → (new ≡ false → LeavesSince old disk (MayLeave old size found issued)) → IsBooted new old size found issued disk
booted true old disk size found issued goes = (omega arith, λ t c le is. tt)
booted false old disk size found issued goes = let any = goes refl in (any.later, λ t c le is. any.before t c le is)

-- ---- of a board that is not on
-- The formatted state has no image: a mode that issues a command is refused 8 there, and nothing is in doubt.
calm : (e : Refusal) (cs : List Change) → number_of_refusal e ≡ 8 → doubt_by e cs ≡ None
calm Down cs eight = absurd (omega (arith, eight))
calm e cs eight = refl

none_to_doubt : (e : Refusal) → doubt_by e [] ≡ None
none_to_doubt Down = refl
none_to_doubt e = refl

formatted_calm : (mode : BootMode) (shape : Size) (payloads : List (List ℕ)) (e : Refusal) → RefusesBoot mode shape payloads formatted e → doubt_by e (commands_by mode formatted) ≡ None
formatted_calm modes.Fresh shape payloads e why = none_to_doubt e
formatted_calm modes.Keep shape payloads e why = none_to_doubt e
formatted_calm modes.Discard shape payloads e why = calm e (commands_by modes.Discard formatted) why
formatted_calm modes.Resume shape payloads e why = calm e (commands_by modes.Resume formatted) why

-- and no trial: no mode issues more than one
formatted_few : (mode : BootMode) → length (commands_by mode formatted) ≤ 1
formatted_few modes.Fresh = omega arith
formatted_few modes.Keep = omega arith
formatted_few modes.Discard = omega arith
formatted_few modes.Resume = omega arith

-- a boot of the formatted state that is refused has left it
formatted_left : (mode : BootMode) (shape : Size) (payloads : List (List ℕ)) (e : Refusal) (disk : Facts) → RefusesBoot mode shape payloads formatted e → LeavesLife (doubt_by e (commands_by mode formatted)) disk shape formatted → LeavesOnly disk shape formatted
formatted_left mode shape payloads e disk why left = subst (λ (d : Option Change). LeavesLife d disk shape formatted) (formatted_calm mode shape payloads e why) left

module _ (mid left : Facts) (goes_on : GoesOn mid left) (mode : BootMode) (payloads : List (List ℕ)) where
  pub unpowered_kept : (found now : Option Durable) (e : Refusal) → IsUnpowered mode payloads found now mid e left → (size : Size) → IsKept mid size → (z : Size) × IsKept left z
  unpowered_kept None None e why size kept = (size, (goes_on why.any_moment.now).1 size kept)
  unpowered_kept (Some f) (Some n) e why size kept = (why.size, life_kept why.life.doubt left why.size (now_of why.life) why.left)
  unpowered_kept None (Some n) e why size kept = absurd why
  unpowered_kept (Some f) None e why size kept = absurd why

  device_failed : (e : Refusal) → e ≡ Device → OpenRefused mid e left → Failed mid.failures left.failures
  device_failed e is why = subst (λ (x : Refusal). OpenRefused mid x left) is why

  by_open : (old : Facts) (e : Refusal) → mid.failures ≡ old.failures → OpenRefused mid e left → (e ≡ Device) ⊎ (e ≡ Memory) → (Boot : Type 0) → ((e ≡ Device) × Failed old.failures left.failures) ⊎ (e ≡ Memory) ⊎ Boot
  by_open old e counts why (inl device) Boot = inl (device, subst (λ (n : ℕ). Failed n left.failures) counts (device_failed e device why))
  by_open old e counts why (inr memory) Boot = inr (inl memory)

  pub refuses_new : (old : Facts) (shape : Size) (found now : Option Durable) (e : Refusal) → mid.failures ≡ old.failures → (OpenRefused mid e left → (e ≡ Device) ⊎ (e ≡ Memory)) → LeavesOnly mid shape formatted → IsUnpowered mode payloads found now mid e left
      → RefusesNew shape mode payloads old e left
  refuses_new old shape None None e counts opens only why =
      let more = goes_on why.any_moment.now in
      (by_open old e counts why.why (opens why.why) (RefusesBoot mode shape payloads formatted e), record { kept = more.1 shape only.kept; only = λ z t leaves. only.only z t (more.2 z t leaves) })
  refuses_new old shape (Some f) (Some n) e counts opens only why =
      let is = only.only why.size why.state why.earlier in
      let refused : RefusesBoot mode shape payloads formatted e = subst₂ (λ (z : Size) (s : DurableState). RefusesBoot mode z payloads s e) is.0 is.1 why.why in
      let few = subst (λ (s : DurableState). length (commands_by mode s) ≤ 1) (sym is.1) (formatted_few mode) in
      let at = left_at mode e why.state why.life left why.size few why.stopped why.left in
      (inr (inr refused), formatted_left mode shape payloads e left refused (subst₂ (λ (z : Size) (s : DurableState). LeavesLife (doubt_by e (commands_by mode s)) left z s) is.0 is.1 at))
  refuses_new old shape None (Some n) e counts opens only why = absurd why
  refuses_new old shape (Some f) None e counts opens only why = absurd why

  -- by whether a new disk was asked for
  module _ (old : Facts) (shape : Size) (found now : Option Durable) (e : Refusal) (why : IsUnpowered mode payloads found now mid e left) where
    pub refuses_disk : (new : Bool) → mid.failures ≡ old.failures → (new ≡ true → TakesFormat shape old.content) → (new ≡ true → LeavesOnly mid shape formatted) → (new ≡ false → IsUnpowered mode payloads found now old e left)
        → ((size : Size) → IsKept mid size → OpenRefused mid e left → (e ≡ Device) ⊎ (e ≡ Memory)) → RefusesDisk new shape mode payloads old e left
    refuses_disk true counts takes only was opens = inr (takes refl, refuses_new old shape found now e counts (opens shape (only refl).kept) (only refl) why)
    refuses_disk false counts takes only was opens = (found, now, was refl)

    pub kept_off : (new : Bool) → (new ≡ true → LeavesOnly mid shape formatted) → (new ≡ false → (size : Size) → IsKept old size → IsKept mid size) → (size : Size) → IsKept old size → (z : Size) × IsKept left z
    kept_off true only same size kept = unpowered_kept found now e why shape (only refl).kept
    kept_off false only same size kept = unpowered_kept found now e why size (same refl size kept)

-- a format that was refused, of a new disk
pub format_refuses : (new : Bool) (shape : Size) (mode : BootMode) (payloads : List (List ℕ)) (old left : Facts) (e : Refusal) → new ≡ true → FormatRefused old shape e left → WritesHead old left → RefusesDisk new shape mode payloads old e left
format_refuses new shape mode payloads old left e is why wrote = subst (λ (b : Bool). RefusesDisk b shape mode payloads old e left) (sym is) (inl (why, wrote))

-- ---- of a board that is on
pub runs_over : (new : Bool) (shape : Size) (mode : BootMode) (payloads : List (List ℕ)) (old mid : Facts) (store : StoreView) (machine : Machine) → (new ≡ true → TakesFormat shape old.content) → (new ≡ true → LeavesOnly mid shape formatted)
    → (new ≡ false → mid.content ≡ old.content) → IsOn mode payloads mid store machine → RunsOver new shape mode payloads old.content
runs_over true shape mode payloads old mid store machine takes only same on =
    let is = (only refl).only store.size store.life.found on.found in
    (takes refl, subst₂ (λ (z : Size) (s : DurableState). Allows z s mode payloads) is.0 is.1 (on.allowed, on.fits))
runs_over false shape mode payloads old mid store machine takes only same on =
    (store.size, store.life.found, subst (λ (c : Content). StandsFor c store.size store.life.found) (same refl) on.reads, (on.allowed, on.fits))

-- the session began over the disk that it was given
pub begins : (new : Bool) (shape : Size) (mode : BootMode) (payloads : List (List ℕ)) (old mid : Facts) (store : StoreView) (machine : Machine) → (new ≡ true → LeavesOnly mid shape formatted)
    → (new ≡ false → mid.content ≡ old.content) → IsOn mode payloads mid store machine → Begins new shape old.content store.size store.life.found
begins true shape mode payloads old mid store machine only same on =
    let is = (only refl).only store.size store.life.found on.found in (is.0, is.1)
begins false shape mode payloads old mid store machine only same on = subst (λ (c : Content). StandsFor c store.size store.life.found) (same refl) on.reads

-- a boot is counted where a trial stands
attempts_taken : (s : DurableState) (trial : Option Trial) → s.trial ≡ trial → are_taken s (attempts_of trial) ≡ true
attempts_taken s None is = refl
attempts_taken s (Some t) is = ap (λ (o : Option Trial). is_none {T = ℕ} (if is_some o then None else Some 20) && true) is

-- the journal that a boot begins with
pub boot_taken : (mode : BootMode) (s : DurableState) → boot_refusal s mode ≡ None → are_taken s (commands_by mode s) ≡ true
boot_taken modes.Fresh s free = attempts_taken s s.trial refl
boot_taken modes.Keep s free = attempts_taken s s.trial refl
boot_taken modes.Discard s free =
    ap (λ (o : Option ℕ). is_none o && are_taken (after s Discard) (attempts_of s.trial)) free ∙ attempts_taken (after s Discard) s.trial refl
boot_taken modes.Resume s free = ap (λ (o : Option ℕ). is_none o && true) free

-- a life that the boot began
pub life_taken : (mode : BootMode) (life : Life) → life ≡ life_after mode life.found → boot_refusal life.found mode ≡ None → are_taken life.found life.journal ≡ true
life_taken mode life is free = subst (λ (cs : List Change). are_taken life.found cs ≡ true) (sym (ap (λ (x : Life). x.journal) is)) (boot_taken mode life.found free)

pub life_issued : (mode : BootMode) (life : Life) → life ≡ life_after mode life.found → life.journal ≡ commands_by mode life.found
life_issued mode life is = ap (λ (x : Life). x.journal) is

pub life_few : (mode : BootMode) (life : Life) → life ≡ life_after mode life.found → length life.journal ≤ 2
life_few mode life is = subst (λ (cs : List Change). length cs ≤ 2) (sym (life_issued mode life is)) (few_commands mode life.found)

-- no command of a boot ends its life
attempts_end : (P : Change → Type 0) (trial : Option Trial) → AllEndAs P (attempts_of trial)
attempts_end P None = none_end P
attempts_end P (Some trial) = more_end P Attempt [] (going_on P Attempt refl) (none_end P)

commands_end : (P : Change → Type 0) (mode : BootMode) (s : DurableState) → AllEndAs P (commands_by mode s)
commands_end P modes.Fresh s = attempts_end P s.trial
commands_end P modes.Keep s = attempts_end P s.trial
commands_end P modes.Discard s = more_end P Discard (attempts_of s.trial) (going_on P Discard refl) (attempts_end P s.trial)
commands_end P modes.Resume s = more_end P Consume [] (going_on P Consume refl) (none_end P)

pub life_ends : (P Q : Change → Type 0) (mode : BootMode) (life : Life) → life ≡ life_after mode life.found → IsEndedAs P Q life
life_ends P Q mode life is = subst (λ (x : Life). IsEndedAs P Q x) (sym is) (record { journal = commands_end P mode life.found; doubt = λ c e. let no : ⊥ = cc in absurd no })

-- of which none is in doubt
pub life_up : (mode : BootMode) (life : Life) → life ≡ life_after mode life.found → life.doubt ≡ None
life_up mode life is = ap (λ (x : Life). x.doubt) is

-- what the boot's commands make a journal begin with
pub begins_so : (issued journal : List Change) → BeginsWith issued journal → (later : List Change) × (journal ≡ issued ++ later)
begins_so issued journal begins = (drop (length issued) journal, sym (take-append-drop (length issued) journal) ∙ ap (λ (cs : List Change). cs ++ drop (length issued) journal) begins)
