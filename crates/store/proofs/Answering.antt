-- What a command does, put together from its steps.
use Rattle.std.proofs.Common.{◌≡◌, ◌∙◌, inl, inr, ⊎_elim, Option, Some, option_map, ℕ, ◌+◌, ◌-◌, ◌<◌, arith, length, Result, Ok, Err, None, OnOk, IfErr, IsErrOf, ◌⊎◌, refl, sym, ap, subst, false}
use Rattle.std.{specs.Result.MatchResult, proofs.lemmas.Result.IfErr-weaker}
use Rattle.board_model.specs.{Durable.{DurableState, Change, after, refusal_of}, Shapes.Size, declared.refusal.Refusal.Refusal}
use Rattle.board_model.specs.declared.refusal.Refusal.TheVariants.{Device, Down, Memory}
use Rattle.disk.specs.{Facts.{Content, Facts, sector, LeavesSince}, FaultState.FaultState}
use Rattle.disk.specs.Moments.{leaves_none, leaves_then, leaves_weaker}
use Rattle.image.specs.Refusals.{WriteRefused}
use Rattle.layout.specs.{Records.{version_number, record_of, IsInRange}, declared.records.{Record.Record, Version.TheVariants.Two}}
use Rattle.layout.proofs.SpelledRecords.{version_in}
use Rattle.store.specs.{Commits.IsUp, declared.doubts.Doubt.Doubt, Leaves.{LeavesOnly, LeavesEither, StandsForEither, WroteACommand}}
use Rattle.store.specs.{Lives.{Life, now_of, Reaches, Applied, Suspended, IsReseen}, Opens.CausedRefusal}
use Rattle.store.{specs.Standing.{selected, live_sector, version_at, state_of, StandsFor}, proofs.States.{stands_for, up_leaves}}
use Rattle.store.{specs.Answers.{StoreView, GoesTo, CountedRefusal, Answered}, proofs.Suspending.{told_so, applied_found, now_still}}

pub wrote : (old new : Facts) (size : Size) (side : ℕ) (next : Record) → side < 2 → selected old.content ≡ side → IsInRange size next → next.version ≡ Two
    → ((c : Content) → new.may_leave c → (selected c ≡ 1 - side) × (sector c (2 + (1 - side)) ≡ record_of next) × (sector c (2 + side) ≡ sector old.content (2 + side)))
    → WroteACommand old new
unfolding WroteACommand
wrote old new size side next known was range two is c left =
    let w = is c left in
    let back : 1 - selected c ≡ side = omega (arith, known, w.0) in (
      w.0 ∙ ap (λ (k : ℕ). 1 - k) (sym was),
      ap (λ (k : ℕ). version_at (sector c (2 + k))) w.0 ∙ version_in size next (sector c (2 + (1 - side))) (range, w.1) ∙ ap version_number two,
      ap (λ (k : ℕ). sector c (2 + k)) back ∙ w.2 ∙ ap (λ (k : ℕ). sector old.content (2 + k)) (sym was),
    )

wrote_later : (old mid new : Facts) → selected mid.content ≡ selected old.content → live_sector mid.content ≡ live_sector old.content → WroteACommand mid new → WroteACommand old new
unfolding WroteACommand
wrote_later old mid new same live wrote c left = let w = wrote c left in (w.0 ∙ ap (λ (k : ℕ). 1 - k) same, w.1, w.2 ∙ live)

-- a refusal but 5 and 6 has no cause, and the disk did not fail
nothing_failed : (m : FaultState) (n : ℕ) (e : Refusal) → (e ≡ Device → ⊥) → (e ≡ Down → ⊥) → CausedRefusal m e m × CountedRefusal n e n
nothing_failed m n Device not_device not_down = absurd (not_device refl)
nothing_failed m n Down not_device not_down = absurd (not_down refl)
nothing_failed m n e not_device not_down = (refl, refl)

-- what a crash leaves by the answer to a command that goes to the disk and makes t of s
abbrev pub Settles : Facts → Facts → Size → DurableState → DurableState → Result ℕ Refusal → Type 0
Settles old new size s t (Ok n) = LeavesOnly new size t
Settles old new size s t (Err Down) = LeavesEither new size s t
Settles old new size s t (Err e) = LeavesOnly new size s × LeavesSince old new (λ c. StandsFor c size s)

pub goes_to : (old new : Facts) (size : Size) (s t : DurableState) (result : Result ℕ Refusal) → LeavesSince old new (StandsForEither size s t) → Settles old new size s t result → GoesTo old new size s t result
goes_to old new size s t (Ok n) moment settled = record { any_moment = moment; acknowledged = settled; unchanged = tt; still = tt; in_doubt = λ is. cc }
goes_to old new size s t (Err Down) moment settled = record { any_moment = moment; acknowledged = tt; unchanged = λ not_down. absurd (not_down refl); still = λ not_down. absurd (not_down refl); in_doubt = λ _. settled }
goes_to old new size s t (Err e) moment settled = record { any_moment = moment; acknowledged = tt; unchanged = λ _. settled.0; still = λ _. settled.1; in_doubt = λ is. cc }

-- refused, whatever that makes of the life
pub refused_so : {Does : Life → Change → Result ℕ Refusal → Life → Type 0} (old new : StoreView) (c : Change) (e : Refusal) → Does old.life c (Err e) new.life
    → LeavesSince old.disk new.disk (StandsForEither old.size (now_of old.life) (after (now_of old.life) c)) → Settles old.disk new.disk old.size (now_of old.life) (after (now_of old.life) c) (Err e)
    → CausedRefusal old.fault_state e new.fault_state → CountedRefusal old.disk.failures e new.disk.failures → Answered Does old c (Err e) new
refused_so old new c e did moment settled cause counts = record {
  life = did;
  leaves = goes_to old.disk new.disk old.size (now_of old.life) (after (now_of old.life) c) (Err e) moment settled;
  written = tt;
  cause = cause;
  counts = counts;
}

settled_before : (old new : Facts) (size : Size) (s t : DurableState) (e : Refusal) → (e ≡ Down → ⊥) → LeavesOnly new size s → LeavesSince old new (λ c. StandsFor c size s) → Settles old new size s t (Err e)
settled_before old new size s t Down up only still = absurd (up refl)
settled_before old new size s t e up only still = (only, still)

-- refused by a store that is up, before the disk was asked
pub refused_up : (Does : Life → Change → Result ℕ Refusal → Life → Type 0) (v : StoreView) (side : ℕ) (current : Record) (c : Change) (e : Refusal) → ((x : Content) → v.disk.since v.disk.moment x → v.disk.may_leave x)
    → IsUp v.disk v.size side current → now_of v.life ≡ state_of v.size current v.disk.content → Does v.life c (Err e) v.life → (e ≡ Device → ⊥) → (e ≡ Down → ⊥) → Answered Does v c (Err e) v
refused_up Does v side current c e only_now up folded did not_device not_down =
    let now = now_of v.life in
    let failed = nothing_failed v.fault_state v.disk.failures e not_device not_down in
    let still : LeavesSince v.disk v.disk (λ x. StandsFor x v.size now) =
    leaves_none v.disk (λ x. StandsFor x v.size now) only_now (λ x left. subst (StandsFor x v.size) (sym folded) (stands_for v.size side current v.disk.content x (up x left))) in
    refused_so v v c e did
    (leaves_weaker v.disk v.disk (λ x. StandsFor x v.size now) (StandsForEither v.size now (after now c)) still (λ x stands. inl stands))
    (settled_before v.disk v.disk v.size now (after now c) e not_down (subst (LeavesOnly v.disk v.size) (sym folded) (up_leaves v.disk v.size side current up)) still)
    failed.0 failed.1

-- an area was written, in which the state is as before, and then a command went on
module _ (old mid : Facts) (size : Size) (s : DurableState) (first : LeavesSince old mid (λ c. StandsFor c size s)) where
  pub first_moment : (t : DurableState) → LeavesSince old mid (StandsForEither size s t)
  first_moment t = leaves_weaker old mid (λ c. StandsFor c size s) (StandsForEither size s t) first (λ c stands. inl stands)

  goes_on : (new : Facts) (z : Size) (r : DurableState) (c : Change) (result : Result ℕ Refusal) → z ≡ size → r ≡ s → GoesTo mid new z r (after r c) result → GoesTo old new size s (after s c) result
  goes_on new z r c result sized same given =
      let here : GoesTo mid new size s (after s c) result = subst (λ (x : DurableState). GoesTo mid new size x (after x c) result) same (subst (λ (y : Size). GoesTo mid new y r (after r c) result) sized given) in
      record {
        any_moment = leaves_then old mid new (StandsForEither size s (after s c)) (first_moment (after s c)) here.any_moment;
        acknowledged = here.acknowledged;
        unchanged = here.unchanged;
        still = IfErr-weaker result _ _ (λ e each not_down. leaves_then old mid new (λ x. StandsFor x size s) first (each not_down)) here.still;
        in_doubt = here.in_doubt;
      }

written_on : (old mid new : Facts) (result : Result ℕ Refusal) → selected mid.content ≡ selected old.content → live_sector mid.content ≡ live_sector old.content → OnOk result (WroteACommand mid new) → OnOk result (WroteACommand old new)
written_on old mid new (Ok n) same live wrote = wrote_later old mid new same live wrote
written_on old mid new (Err e) same live wrote = tt

pub then_issued : (Fits : Type 0) (old mid new : StoreView) (c : Change) (result : Result ℕ Refusal) → Fits → mid.life ≡ record old.life { found = mid.life.found } → IsReseen old.life mid.life.found
    → mid.size ≡ old.size → mid.fault_state ≡ old.fault_state → mid.disk.failures ≡ old.disk.failures → selected mid.disk.content ≡ selected old.disk.content → live_sector mid.disk.content ≡ live_sector old.disk.content
    → LeavesSince old.disk mid.disk (λ c. StandsFor c old.size (now_of old.life)) → Answered Applied mid c result new → Answered (Suspended Fits) old c result new
then_issued Fits old mid new c result fits life reseen sized calm counted same live first did = record {
  life = record {
    reseen = subst (IsReseen old.life) (sym (applied_found mid.life c result new.life did.life)) reseen;
    told = told_so Fits old.life mid.life c result new.life fits life did.life;
  };
  leaves = goes_on old.disk mid.disk old.size (now_of old.life) first new.disk mid.size (now_of mid.life) c result sized (now_still old.life mid.life mid.life.found life reseen) did.leaves;
  written = written_on old.disk mid.disk new.disk result same live did.written;
  cause = subst (λ (m : FaultState). MatchResult result (λ n. new.fault_state ≡ m) (λ e. CausedRefusal m e new.fault_state)) calm did.cause;
  counts = subst (λ (k : ℕ). MatchResult result (λ n. new.disk.failures ≡ k) (λ e. CountedRefusal k e new.disk.failures)) counted did.counts;
}

-- and where the area could not be written
pub unwritten : (Fits : Type 0) (old mid : StoreView) (c : Change) (e : Refusal) → Fits → mid.life ≡ record old.life { found = mid.life.found } → IsReseen old.life mid.life.found
    → old.life.over ≡ false → length old.life.journal < 4096 → refusal_of (now_of old.life) c ≡ None → LeavesOnly mid.disk old.size (now_of old.life)
    → LeavesSince old.disk mid.disk (λ c. StandsFor c old.size (now_of old.life)) → WriteRefused old.disk old.fault_state e mid.disk mid.fault_state → Answered (Suspended Fits) old c (Err e) mid
unwritten Fits old mid c e fits life reseen going room allowed only first why = by e why
  where
    again : Life
    again = record old.life { found = mid.life.found }

    reaches : Reaches again c
    reaches = (going, room, ap (λ (s : DurableState). refusal_of s c) reseen.now ∙ allowed)

    moment : LeavesSince old.disk mid.disk (StandsForEither old.size (now_of old.life) (after (now_of old.life) c))
    moment = first_moment old.disk mid.disk old.size (now_of old.life) first (after (now_of old.life) c)

    by : (f : Refusal) → WriteRefused old.disk old.fault_state f mid.disk mid.fault_state → Answered (Suspended Fits) old c (Err f) mid
    by Device why = refused_so old mid c Device (record { reseen = reseen; told = inl (fits, inl (refl, reaches, life)) }) moment (only, first) why.1 why.0
    by Memory why = refused_so old mid c Memory (record { reseen = reseen; told = inr (inr (inl (refl, fits, reaches, life))) }) moment (only, first) why.1 why.0
    by f why = absurd why

pub the_error : (e f : Refusal) → IsErrOf {T = ℕ} (Err e) f → e ≡ f
the_error e f is = let same : e ≡ f = cc in same

-- a refusal by the disk is none for want of memory
pub not_of_memory : (r : Result ℕ Refusal) → IfErr r (λ e. (e ≡ Device) ⊎ (e ≡ Down)) → IsErrOf r Memory → ⊥
not_of_memory (Ok n) few is = let no : ⊥ = cc in no
not_of_memory (Err e) (inl f) is = let g : Memory ≡ Device = sym (the_error e Memory is) ∙ f in let no : ⊥ = cc in no
not_of_memory (Err e) (inr f) is = let g : Memory ≡ Down = sym (the_error e Memory is) ∙ f in let no : ⊥ = cc in no

-- a command that was issued is refused by the disk alone
pub by_disk : (r : Result ℕ Refusal) (P : Type 0) → IfErr r (λ e. (e ≡ Device) ⊎ (e ≡ Down)) → IfErr r (λ e. (e ≡ Device → ⊥) → (e ≡ Down → ⊥) → (e ≡ Memory → ⊥) → P)
by_disk (Ok n) P few = tt
by_disk (Err e) P few = λ device down memory. absurd (⊎_elim device down few)

-- nothing is in doubt
pub none_doubted : (f : Doubt → Change) (doubt : Option Doubt) (d : Change) → doubt ≡ None → option_map f doubt ≡ Some d → ⊥
none_doubted f None d none is = cc
none_doubted f (Some x) d none is = cc
