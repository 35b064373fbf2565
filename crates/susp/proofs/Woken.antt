-- An image was loaded, and then its consumption asked: together, from the state before the load.
use Rattle.std.proofs.Common.{◌≡◌, ◌⊎◌, ◌-◌, ℕ, List, Ok, Err, Result, OnOk, Option, Some, None, refl, sym, ap, ◌∙◌, subst, inl, inr, arith}
use Rattle.std.{specs.Result.MatchResult, proofs.lemmas.Result.IfErr-weaker}
use Rattle.board_model.specs.{Durable.{DurableState, Change, Image, Consume, after, refusal_of}, Shapes.Size}
use Rattle.board_model.specs.declared.refusal.Refusal.{Refusal, TheVariants.{Device, Down, Over, JournalFull, BadShape, NoImage, BadImage}}
use Rattle.disk.specs.{declared.{device.{Disk.Ghosts, Lane.{Ghosts as Lanes}}}, Facts.{Content, Facts, LeavesSince, Failed}}
use Rattle.disk.specs.{FaultState.FaultState, Moments.{leaves_then, leaves_weaker}}
use Rattle.image.specs.Refusals.{StopsWithin}
use Rattle.store.specs.{Leaves.{Leaves, IsKept, LeavesOnly, StandsForEither, WroteACommand}, Opens.CausedRefusal, Asked.Asked}
use Rattle.store.specs.{Lives.{Life, now_of, Applied, Reaches, Refused, LoadRefused}, Standing.{selected, live_sector, StandsFor}}
use Rattle.store.specs.{Answers.{StoreView, GoesTo, CountedRefusal, Answered}, Views.{life_of, now_state, doubt_of}}
use Rattle.store.specs.declared.stores.Store.{Store}
use Rattle.susp.specs.Wakes.{WakeStops}

-- each content that a crash may leave stands for that state
stands_so : (disk : Facts) (size : Size) (s : DurableState) → LeavesOnly disk size s → (c : Content) → disk.may_leave c → StandsFor c size s
unfolding Leaves IsKept
stands_so disk size s only c left =
    let k = only.kept c left in
    subst (λ (t : DurableState). StandsFor c size t) (only.only size k.0 (c, left, k.1)).1 k.1

wrote_later : (old mid new : Facts) → mid.content ≡ old.content → WroteACommand mid new → WroteACommand old new
unfolding WroteACommand
wrote_later old mid new same wrote c left =
    let w = wrote c left in (w.0 ∙ ap (λ (d : Content). 1 - selected d) same, w.1, w.2 ∙ ap (λ (d : Content). live_sector d) same)

wrote_on : (old mid new : Facts) (result : Result ℕ Refusal) → mid.content ≡ old.content → OnOk result (WroteACommand mid new) → OnOk result (WroteACommand old new)
wrote_on old mid new (Ok n) same wrote = wrote_later old mid new same wrote
wrote_on old mid new (Err e) same wrote = tt

pub answered_on : (old mid new : StoreView) (c : Change) (result : Result ℕ Refusal) → mid.life ≡ old.life → mid.size ≡ old.size → mid.fault_state ≡ old.fault_state
    → mid.disk.failures ≡ old.disk.failures → mid.disk.content ≡ old.disk.content → LeavesSince old.disk mid.disk old.disk.may_leave → LeavesOnly old.disk old.size (now_of old.life)
    → Answered Applied mid c result new → Answered Applied old c result new
answered_on old mid new c result life sized calm counted content first only did =
    let s = now_of old.life in
    let P = StandsForEither old.size s (after s c) in
    let goes : GoesTo mid.disk new.disk old.size s (after s c) result =
    subst (λ (x : Life). GoesTo mid.disk new.disk old.size (now_of x) (after (now_of x) c) result) life
    (subst (λ (y : Size). GoesTo mid.disk new.disk y (now_of mid.life) (after (now_of mid.life) c) result) sized did.leaves) in
    record {
      life = subst (λ (x : Life). Applied x c result new.life) life did.life;
      leaves = record {
        any_moment = leaves_then old.disk mid.disk new.disk P (leaves_weaker old.disk mid.disk old.disk.may_leave P first (λ x left. inl (stands_so old.disk old.size s only x left))) goes.any_moment;
        acknowledged = goes.acknowledged;
        unchanged = goes.unchanged;
        still = IfErr-weaker result _ _
            (λ e each not_down. leaves_then old.disk mid.disk new.disk (λ x. StandsFor x old.size s) (leaves_weaker old.disk mid.disk old.disk.may_leave (λ x. StandsFor x old.size s) first (λ x left. stands_so old.disk old.size s only x left)) (each not_down))
            goes.still;
        in_doubt = goes.in_doubt;
      };
      written = wrote_on old.disk mid.disk new.disk result content did.written;
      cause = subst (λ (m : FaultState). MatchResult result (λ n. new.fault_state ≡ m) (λ e. CausedRefusal m e new.fault_state)) calm did.cause;
      counts = subst (λ (k : ℕ). MatchResult result (λ n. new.disk.failures ≡ k) (λ e. CountedRefusal k e new.disk.failures)) counted did.counts;
    }

-- the state now is one that a crash may leave
pub left_now : (disk : Facts) (size : Size) (s : DurableState) → disk.may_leave disk.content → LeavesOnly disk size s → Leaves disk size s
unfolding Leaves
left_now disk size s may_keep only = (disk.content, may_keep, stands_so disk size s only disk.content may_keep)

-- where a Consume is not refused, an image stands
there : (s : DurableState) → refusal_of s Consume ≡ None → s.image ≡ None → ⊥
there s allowed none =
    let refused : Some 8 ≡ None = rw none at allowed in
    cc

pub unloaded : (size : Size) (s : DurableState) (memory : List ℕ) (old : Facts) (m : FaultState) (e : Refusal) (new : Facts) (n : FaultState) → refusal_of s Consume ≡ None
    → (e ≡ Device) ⊎ ((e ≡ NoImage) × (s.image ≡ None)) → LoadRefused size s memory old m e new n → ((e ≡ Device) ⊎ (e ≡ Down)) × Failed old.failures new.failures
unloaded size s memory old m e new n allowed (inl device) why =
    let was : LoadRefused size s memory old m Device new n = rw device at why in
    (inl device, was.1)
unloaded size s memory old m e new n allowed (inr none) why = absurd (there s allowed none.1)

-- a Consume that goes to the disk is refused only where that failed
refused_by : (old : Life) (e : Refusal) (new : Life) (a b : ℕ) → Reaches old Consume → Refused old Consume e new → CountedRefusal a e b → ((e ≡ Device) ⊎ (e ≡ Down)) × Failed a b
refused_by old e new a b reaches (inl device) counts =
    let failed : CountedRefusal a Device b = rw device.0 at counts in
    (inl device.0, failed)
refused_by old e new a b reaches (inr (inl down)) counts =
    let failed : CountedRefusal a Down b = rw down.0 at counts in
    (inr down.0, failed)
refused_by old e new a b reaches (inr (inr (inl over))) counts =
    let ended = over.1 in
    let going = reaches.0 in
    absurd (let n : ⊥ = cc in n)
refused_by old e new a b reaches (inr (inr (inr (inl full)))) counts = absurd (omega (arith, full.2, reaches.1))
refused_by old e new a b reaches (inr (inr (inr (inr table)))) counts =
    let refused = table.0 in
    let allowed = reaches.2 in
    absurd (let n : ⊥ = cc in n)

pub unconsumed : (old new : StoreView) (e : Refusal) → Reaches old.life Consume → Answered Applied old Consume (Err e) new → ((e ≡ Device) ⊎ (e ≡ Down)) × Failed old.disk.failures new.disk.failures
unconsumed old new e reaches did = refused_by old.life e new.life old.disk.failures new.disk.failures reaches did.life did.counts

-- ---- the refusals of a load are none of a Consume after it
abbrev pub IsOfStore : Refusal → Type 0
IsOfStore e = (e ≡ BadShape → ⊥) × (e ≡ NoImage → ⊥) × (e ≡ BadImage → ⊥)

pub unloaded_same : {P : Type 0} {e : Refusal} → ((e ≡ Device → ⊥) → (e ≡ BadImage → ⊥) → P) → (e ≡ BadShape) ⊎ (e ≡ NoImage) → P
unloaded_same same (inl shape) = same (λ is. cc) (λ is. cc)
unloaded_same same (inr none) = same (λ is. cc) (λ is. cc)

pub stops_at_load : (pages a b : ℕ) (e : Refusal) → ((e ≡ BadShape) ⊎ (e ≡ NoImage) → b ≡ a) → StopsWithin pages e a b → WakeStops pages e a b
stops_at_load pages a b BadShape same stops = same (inl refl)
stops_at_load pages a b NoImage same stops = same (inr refl)
stops_at_load pages a b BadImage same stops = stops
stops_at_load pages a b e same stops = tt

pub stops_later : (pages a b : ℕ) (e : Refusal) → IsOfStore e → WakeStops pages e a b
stops_later pages a b BadShape other = absurd (other.0 refl)
stops_later pages a b NoImage other = absurd (other.1 refl)
stops_later pages a b BadImage other = absurd (other.2 refl)
stops_later pages a b e other = tt

is_one : (e f : Refusal) → IsOfStore f → e ≡ f → IsOfStore e
is_one e f is same = subst IsOfStore (sym same) is

by_store : (old : Life) (i : Image) (e : Refusal) (new : Life) → (now_of old).image ≡ Some i → Refused old Consume e new → IsOfStore e
by_store old i e new stands (inl device) = is_one e Device (λ is. cc, λ is. cc, λ is. cc) device.0
by_store old i e new stands (inr (inl down)) = is_one e Down (λ is. cc, λ is. cc, λ is. cc) down.0
by_store old i e new stands (inr (inr (inl over))) = is_one e Over (λ is. cc, λ is. cc, λ is. cc) over.0
by_store old i e new stands (inr (inr (inr (inl full)))) = is_one e JournalFull (λ is. cc, λ is. cc, λ is. cc) full.0
by_store old i e new stands (inr (inr (inr (inr table)))) =
    absurd (let taken : refusal_of (now_of old) Consume ≡ None = rw stands refl in let refused = table.0 in let n : ⊥ = cc in n)

module _ {D L : Type 0} {g : Ghosts D L} {l : Lanes L} (old mid new : Store D L g l) (i : Image) (e : Refusal) where
  pub unlike_a_load : (now_state old).image ≡ Some i → life_of mid ≡ life_of old → Asked Applied mid Consume (Err e) new → IsOfStore e
  unlike_a_load stands life asked = by (doubt_of mid) refl
    where
      by : (d : Option Change) → doubt_of mid ≡ d → IsOfStore e
      by None none = by_store (life_of mid) i e (life_of new) (ap (λ (x : Life). (now_of x).image) life ∙ stands) (asked.answered none).life
      by (Some d) is = is_one e Down (λ is. cc, λ is. cc, λ is. cc) (let r = (asked.down d is).0 in cc)
