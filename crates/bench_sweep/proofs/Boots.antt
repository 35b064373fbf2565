-- Ledgers that follow the commands of a boot.
use Rattle.std.proofs.Common.{◌≡◌, ℕ, inl, inr, Bool, true, false, List, [], ◌∷◌, Option, None, Some, Result, Ok, Err, OnOk, refl, sym, ◌∙◌, ap, subst}
use Rattle.std.specs.Prelude.{is_some, if◌then◌else◌, IsSomeAnd}
use Rattle.board_model.specs.{Durable.{Image, DurableState, Change, Discard, Attempt}, Kept.{Kept, MayKeep, found_of}, Shapes.Size}
use Rattle.board_model.specs.{Views.{durable_of, head_of}, declared.{boot_mode.BootMode.BootMode, durable.{Durable.Durable, Trial.Trial}}}
use Rattle.board_model.specs.declared.durable.ImageHead.{ImageHead}
use Rattle.board.specs.Moments.{attempts_of}
use Rattle.report_lines.specs.declared.printed.Printed.{Printed}
use Rattle.bench_sweep.{specs.{declared.ledgers.RunLedger.RunLedger, Ledgers.{Tells, settled}}, proofs.KnownLedgers.found_more}
use Rattle.bench_sweep.specs.{Runs.TellsWhole, Told.{IssuedTold, AllTold, BootTold, BootSaid, NowTold, PowerTold, commands_told}}
use Rattle.bench_sweep.proofs.Followed.{IssuedKept, TakesKept, as_before, settles}

-- a boot of one command
pub one_told : (said : Option ℕ) (c : Change) (old new : Kept) → BootTold said (c ∷ []) old new → IssuedTold said c old new
one_told None c old new (mid, told, same) = let P : Kept → Type 0 = λ k. IssuedTold None c old k in subst P (sym same) told
one_told (Some n) c old new (inl (other, same)) = inl (λ six. absurd (other six), same)
one_told (Some n) c old new (inr (inl told)) = told
one_told (Some n) c old new (inr (inr (mid, told, none))) = absurd none

-- and of none
pub none_told : (said : Option ℕ) (old new : Kept) → BootTold said [] old new → new ≡ old
none_told None old new same = same
none_told (Some n) old new (inl x) = x.1
none_told (Some n) old new (inr none) = absurd none

-- a command that was refused is none of those kept
refused_changes : (n : ℕ) (c : Change) (old new : Kept) → IssuedTold (Some n) c old new → new.changes ≡ old.changes
refused_changes n c old new (inl x) = ap (λ (k : Kept). k.changes) x.1
refused_changes n c old new (inr x) = ap (λ (k : Kept). k.changes) x.3

late_changes : (n : ℕ) (trial : Option Trial) (old new : Kept) → AllTold (Some n) (attempts_of trial) old new → new.changes ≡ old.changes
late_changes n None old new none = absurd none
late_changes n (Some t) old new (inl told) = refused_changes n Attempt old new told
late_changes n (Some t) old new (inr (mid, told, none)) = absurd none

-- the image that was found was dropped since
abbrev pub IsDropped : Durable → Option Durable → Type 0
IsDropped found now = (is_some found.image ≡ true) × IsSomeAnd now (λ d. d.image ≡ None)

kept_image : {A : Type 0} (found : Durable) (now : Option Durable) (old new : Kept) → IsDropped found now → found ≡ durable_of (found_of old.changes) → NowTold now new → new.changes ≡ old.changes → A
kept_image found None old new dropped is at same = absurd at
kept_image found (Some d) old new dropped is at same =
    let image : found.image ≡ None = ap (λ (x : Durable). x.image) is ∙ sym (ap (λ (cs : List Change). (durable_of (found_of cs)).image) same) ∙ sym (ap (λ (x : Durable). x.image) at) ∙ dropped.1 in
    let e : true ≡ false = sym dropped.0 ∙ ap (λ (o : Option ImageHead). is_some o) image in
    absurd (let no : ⊥ = cc in no)

has_head : (o : Option Image) → is_some o ≡ true → is_some (head_of o) ≡ true
has_head None e = e
has_head (Some i) e = refl

abbrev refuses_none : Bool → Option ℕ
refuses_none stands = if stands then None else Some 8

some_image : (o : Option Image) → refuses_none (is_some o) ≡ None → is_some o ≡ true
some_image None e = cc
some_image (Some i) e = refl

gone_image : (now : Option Durable) (mid new : Kept) → NowTold now new → new.changes ≡ mid.changes → (found_of mid.changes).image ≡ None → IsSomeAnd now (λ d. d.image ≡ None)
gone_image None mid new at same gone = absurd at
gone_image (Some d) mid new at same gone =
    ap (λ (x : Durable). x.image) at ∙ ap (λ (cs : List Change). (durable_of (found_of cs)).image) same ∙ ap (λ (o : Option Image). head_of o) gone

-- where the boot got past the discard, the image is gone
past_discard : (found : Durable) (now : Option Durable) (n : ℕ) (old mid new : Kept) → found ≡ durable_of (found_of old.changes) → NowTold now new → IssuedTold None Discard old mid
    → AllTold (Some n) (attempts_of found.trial) mid new → IsDropped found now
past_discard found now n old mid new is at (calm, allowed, made) rest =
    let stood : is_some (found_of old.changes).image ≡ true = some_image (found_of old.changes).image allowed in
    let head : is_some (durable_of (found_of old.changes)).image ≡ true = has_head (found_of old.changes).image stood in
    let P : Durable → Type 0 = λ d. is_some d.image ≡ true in
    let gone : (found_of mid.changes).image ≡ None = ap (λ (k : Kept). (found_of k.changes).image) made ∙ ap (λ (s : DurableState). s.image) (found_more old.changes Discard) in
    (subst P (sym is) head, gone_image now mid new at (late_changes n found.trial mid new rest) gone)

-- the ledger follows a boot of a state that was found so, and which is then that one
abbrev pub BootKept : RunLedger → RunLedger → Durable → Option Durable → (Kept → Kept → Type 0) → Type 0
BootKept l m found now Told = (size : Size) (old new : Kept) → TellsWhole size l old → found ≡ durable_of (found_of old.changes) → Told old new → NowTold now new → TellsWhole size m new

pub made_both : {E : Type 0} (r : Result (Unit {0}) E) (l k m : RunLedger) (found : Durable) (now : Option Durable) → IssuedKept l k None Discard → OnOk r (TakesKept k m (BootTold None (attempts_of found.trial)))
    → OnOk r (BootKept l m found now (BootTold None (Discard ∷ attempts_of found.trial)))
made_both (Err f) l k m found now first second = tt
made_both (Ok u) l k m found now first second = λ size old new was is (mid, told, rest) at. second size mid new (first size old mid was tt told) rest

pub stopped_late : {E : Type 0} (r : Result (Unit {0}) E) (l k m : RunLedger) (found : Durable) (now : Option Durable) (n : ℕ) → IsDropped found now → IssuedKept l k None Discard
    → OnOk r (TakesKept k m (BootTold (Some n) (attempts_of found.trial))) → OnOk r (BootKept l m found now (BootTold (Some n) (Discard ∷ attempts_of found.trial)))
stopped_late (Err f) l k m found now n dropped first second = tt
stopped_late (Ok u) l k m found now n dropped first second = λ size old new was is told at. by size old new was is told at
  where
    by : BootKept l m found now (BootTold (Some n) (Discard ∷ attempts_of found.trial))
    by size old new was is (inl (other, same)) at = kept_image found now old new dropped is at (ap (λ (k : Kept). k.changes) same)
    by size old new was is (inr (inl told)) at = kept_image found now old new dropped is at (refused_changes n Discard old new told)
    by size old new was is (inr (inr (mid, told, rest))) at = second size mid new (first size old mid was tt told) (inr rest)

pub stopped_first : {E : Type 0} (r : Result (Unit {0}) E) (l m : RunLedger) (found : Durable) (now : Option Durable) (n : ℕ) → (IsDropped found now → ⊥) → OnOk r (IssuedKept l m (Some n) Discard)
    → OnOk r (BootKept l m found now (BootTold (Some n) (Discard ∷ attempts_of found.trial)))
stopped_first (Err f) l m found now n stays kept = tt
stopped_first (Ok u) l m found now n stays kept = λ size old new was is told at. by size old new was is told at
  where
    by : BootKept l m found now (BootTold (Some n) (Discard ∷ attempts_of found.trial))
    by size old new was is (inl (other, same)) at = kept size old new was tt (inl (λ six. absurd (other six), same))
    by size old new was is (inr (inl told)) at = kept size old new was tt told
    by size old new was is (inr (inr (mid, told, rest))) at = absurd (stays (past_discard found now n old mid new is at told rest))

-- the same, told in other words
pub boot_weaker : {E : Type 0} (r : Result (Unit {0}) E) (l m : RunLedger) (found : Durable) (now : Option Durable) (P Q : Kept → Kept → Type 0) → ((old new : Kept) → Q old new → P old new) → OnOk r (BootKept l m found now P) → OnOk r (BootKept l m found now Q)
boot_weaker (Err f) l m found now P Q from kept = tt
boot_weaker (Ok u) l m found now P Q from kept = λ size old new was is told at. kept size old new was is (from old new told) at

pub boot_of : {E : Type 0} (r : Result (Unit {0}) E) (l m : RunLedger) (found : Durable) (now : Option Durable) (P Q : Kept → Kept → Type 0) → ((old new : Kept) → Q old new → P old new) → OnOk r (TakesKept l m P) → OnOk r (BootKept l m found now Q)
boot_of (Err f) l m found now P Q from kept = tt
boot_of (Ok u) l m found now P Q from kept = λ size old new was is told at. kept size old new was (from old new told)

-- a power-on, by what its open found
abbrev pub PowerKept : RunLedger → RunLedger → BootMode → Option Durable → Printed → Option Durable → Type 0
PowerKept l m mode found said now = (size : Size) (old new : Kept) → TellsWhole size l old → PowerTold mode found said now old new → TellsWhole size m new

pub found_none : (l : RunLedger) (mode : BootMode) (found : Option Durable) (said : Printed) (now : Option Durable) → found ≡ None → PowerKept l l mode found said now
found_none l mode found said now none size old new was told =
    let P : Option Durable → Type 0 = λ o. PowerTold mode o said now old new in as_before size l old new was (subst P none told)

pub found_some : {E : Type 0} (r : Result (Unit {0}) E) (l s m : RunLedger) (mode : BootMode) (found : Option Durable) (said : Printed) (now : Option Durable) (d : Durable) → found ≡ Some d
    → ((kept : Kept) (changes : List Change) → Tells l kept → MayKeep kept changes → d ≡ durable_of (found_of changes) → Tells s (settled changes))
    → OnOk r (BootKept s m d now (BootSaid said (commands_told mode d.trial))) → OnOk r (PowerKept l m mode found said now)
found_some (Err f) l s m mode found said now d some settles_it kept = tt
found_some (Ok u) l s m mode found said now d some settles_it kept = λ size old new was told. (
    let P : Option Durable → Type 0 = λ o. PowerTold mode o said now old new in
    let t = subst P some told in
    let x = t.1 in
    let whole = settles size l s old x.0 was x.1 (settles_it old x.0 was.tells x.1 x.2) in
    let is : d ≡ durable_of (found_of t.0.changes) = x.2 ∙ sym (ap (λ (k : Kept). durable_of (found_of k.changes)) x.3) in
    kept size t.0 new (as_before size s (settled x.0) t.0 whole x.3) is t.2 t.3)
