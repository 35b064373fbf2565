-- What commands leave at each moment of a life.
use Rattle.std.proofs.Common.{◌≡◌, ◌∙◌, ◌⊎◌, inl, inr, ℕ, ◌+◌, ◌≤◌, ◌<◌, List, [], ◌∷◌, ◌++◌, Option, Some, None, Result, Ok, Err, length, get_or, refl, sym, ap, subst, arith}
use Rattle.std.proofs.{lemmas.{Bool.cases_lt, List.{append-nil, length-append, take-append-le}}, Math.{ListN.get_or-append, Logic.∥∥₁_map}}
use Rattle.std.{proofs.Math.Seq.{get_or-append_seam, take-length}, specs.Option.option_to_list}
use Rattle.board_model.specs.{Durable.{DurableState, Change, after, fold, refusal_of, Reset, Suspend}, Shapes.Size, Views.number_of_refusal}
use Rattle.board_model.specs.declared.refusal.Refusal.{Refusal, TheVariants.{BadShape, Device, Down, Over, JournalFull, Memory}}
use Rattle.board_model.{proofs.Table.of_table}
use Rattle.disk.specs.{Facts.{Content, Facts, LeavesSince}, declared.{device.{Disk.Ghosts, Lane.{Ghosts as Lanes}}}}
use Rattle.store.specs.{Answers.GoesTo, Asked.Asked, Leaves.{IsKept, Leaves, LeavesOnly, StandsForEither}, Standing.StandsFor}
use Rattle.store.specs.{Lives.{Life, now_of, Applied, Refused, Suspended, SuspendRefused}, declared.stores.Store.Store}
use Rattle.store.specs.Views.{disk_of, doubt_of, journal_of, life_of, size_of_store}
use Rattle.hart.specs.State.{ArchState}
use Rattle.sbi.specs.{Helds.{MakesHeld}, declared.{words.Word.Word}}
use Rattle.sbi.specs.declared.words.Word.TheVariants.{Goes, Over as IsOver}
use Rattle.sbi_abi.specs.declared.{call.Call.Call}
use Rattle.sbi_calls.specs.{Both.Known}
use Rattle.susp.specs.{declared.{buses.Bus.Bus}}
use Rattle.hart_threads.specs.{Legal.IsNamed, Since.{AreKept, IsOfFirst, KeptSince, moments_after, sent}}
use Rattle.hart_threads.proofs.{Answering.{Tells, held_told}, Naming.fold_more}

-- ---- lives: what a command does to the journal, and to the one in doubt
abbrev pub IsLeftBy : Change → Result ℕ Refusal → Life → Life → Type 0
IsLeftBy c (Ok n) old new = (new.journal ≡ old.journal ++ c ∷ []) × (new.doubt ≡ old.doubt)
IsLeftBy c (Err e) old new = (new.journal ≡ old.journal) × (((e ≡ Down) × (new.doubt ≡ Some c)) ⊎ ((e ≡ Down → ⊥) × (new.doubt ≡ old.doubt)))

not_six : (s : DurableState) (c : Change) → refusal_of s c ≡ Some 6 → ⊥
not_six s c is = let six = of_table s c 6 is in cc

same_left : (c : Change) (e : Refusal) (old new : Life) → (e ≡ Down → ⊥) → new ≡ old → IsLeftBy c (Err e) old new
same_left c e old new not same = (ap (λ (l : Life). l.journal) same, inr (not, ap (λ (l : Life). l.doubt) same))

refused_left : (old new : Life) (c : Change) (e : Refusal) → Refused old c e new → IsLeftBy c (Err e) old new
refused_left old new c e (inl p) = same_left c e old new (λ d. let n : Device ≡ Down = sym p.0 ∙ d in let no : ⊥ = cc in no) p.2
refused_left old new c e (inr (inl p)) = (ap (λ (l : Life). l.journal) p.2, inl (p.0, ap (λ (l : Life). l.doubt) p.2))
refused_left old new c e (inr (inr (inl p))) = same_left c e old new (λ d. let n : Over ≡ Down = sym p.0 ∙ d in let no : ⊥ = cc in no) p.2
refused_left old new c e (inr (inr (inr (inl p)))) = same_left c e old new (λ d. let n : JournalFull ≡ Down = sym p.0 ∙ d in let no : ⊥ = cc in no) p.3
refused_left old new c e (inr (inr (inr (inr p)))) = same_left c e old new (λ d. not_six (now_of old) c (p.0 ∙ ap (λ (f : Refusal). Some (number_of_refusal f)) d)) p.3

applied_left : (old new : Life) (c : Change) (r : Result ℕ Refusal) → Applied old c r new → IsLeftBy c r old new
applied_left old new c (Ok n) told = (ap (λ (l : Life). l.journal) told.2, ap (λ (l : Life). l.doubt) told.2)
applied_left old new c (Err e) told = refused_left old new c e told

suspend_left : (Fits : Type 0) (old new : Life) (c : Change) (e : Refusal) → SuspendRefused Fits old c e new → IsLeftBy c (Err e) old new
suspend_left Fits old new c e (inl p) = refused_left old new c e p.1
suspend_left Fits old new c e (inr (inl p)) = same_left c e old new (λ d. let n : BadShape ≡ Down = sym p.0 ∙ d in let no : ⊥ = cc in no) p.4
suspend_left Fits old new c e (inr (inr (inl p))) = same_left c e old new (λ d. let n : Memory ≡ Down = sym p.0 ∙ d in let no : ⊥ = cc in no) p.3
suspend_left Fits old new c e (inr (inr (inr (inl p)))) = same_left c e old new (λ d. let n : Over ≡ Down = sym p.0 ∙ d in let no : ⊥ = cc in no) p.2
suspend_left Fits old new c e (inr (inr (inr (inr p)))) = same_left c e old new (λ d. let n : JournalFull ≡ Down = sym p.0 ∙ d in let no : ⊥ = cc in no) p.3

suspended_left : (Fits : Type 0) (old new : Life) (c : Change) (r : Result ℕ Refusal) → Suspended Fits old c r new → IsLeftBy c r old new
suspended_left Fits old new c (Ok n) did = applied_left (record old { found = new.found }) new c (Ok n) did.told.1
suspended_left Fits old new c (Err e) did = suspend_left Fits (record old { found = new.found }) new c e did.told

-- ---- disks
-- each content that a crash may leave stands for the one state
pub stands_alone : (disk : Facts) (size : Size) (s : DurableState) → LeavesOnly disk size s → (x : Content) → disk.may_leave x → StandsFor x size s
unfolding Leaves IsKept
stands_alone disk size s only x left =
    let k = only.kept x left in
    subst (λ (t : DurableState). StandsFor x size t) (only.only size k.0 (x, left, k.1)).1 k.1

either_more : (A P Q : Type 0) → (P → Q) → A ⊎ P → A ⊎ Q
either_more A P Q more (inl a) = inl a
either_more A P Q more (inr p) = inr (more p)

one_longer : (cs : List Change) (c : Change) → length (cs ++ c ∷ []) ≡ length cs + 1
one_longer cs c = length-append cs (c ∷ [])

module _ (size : Size) (found : DurableState) where
  longer : (cs : List Change) (c : Change) (n : ℕ) (x : Content) → IsOfFirst size found cs n x → IsOfFirst size found (cs ++ c ∷ []) n x
  longer cs c n x of = (
    of.0,
    of.1,
    omega (arith, of.2, one_longer cs c),
    subst (λ (ds : List Change). StandsFor x size (fold found ds)) (sym (take-append-le of.0 cs (c ∷ []) of.2)) of.3,
  )

  whole : (cs : List Change) (n : ℕ) (x : Content) → n ≤ length cs → StandsFor x size (fold found cs) → IsOfFirst size found cs n x
  whole cs n x le stands = (length cs, le, omega arith, subst (λ (ds : List Change). StandsFor x size (fold found ds)) (sym (take-length cs)) stands)

  -- calls went by that left such contents
  went_by : (cs ds : List Change) (old new : Facts) (P : Content → Type 0) (t n : ℕ) → ((x : Content) → IsOfFirst size found cs n x → IsOfFirst size found ds n x) → ((x : Content) → P x → IsOfFirst size found ds n x)
      → LeavesSince old new P → t ≤ old.moment → KeptSince size found cs old t n → KeptSince size found ds new t n
  went_by cs ds old new P t n grows left goes le kept x was = elim (goes.before t x le was) [
    | inl early ↦ ∥∥₁_map (kept x early) (grows x)
    | inr at ↦ ∣ left x at ∣₁
  ]

  -- from this moment on
  pub from_now : (cs : List Change) (disk : Facts) (n : ℕ) → n ≤ length cs → ((x : Content) → disk.since disk.moment x → disk.may_leave x) → LeavesOnly disk size (fold found cs) → KeptSince size found cs disk disk.moment n
  from_now cs disk n le only_now only x was = ∣ whole cs n x le (stands_alone disk size (fold found cs) only x (only_now x was)) ∣₁

  sent_up : (life : Life) → life.doubt ≡ None → sent life.journal life.doubt ≡ life.journal
  sent_up life up = ap (λ (o : Option Change). life.journal ++ option_to_list o) up ∙ append-nil life.journal

  -- the command stands, or may stand, at the end
  either_of : (cs : List Change) (c : Change) (n : ℕ) → n ≤ length cs → (x : Content) → StandsForEither size (fold found cs) (after (fold found cs) c) x → IsOfFirst size found (cs ++ c ∷ []) n x
  either_of cs c n le x (inl stands) = longer cs c n x (whole cs n x le stands)
  either_of cs c n le x (inr stands) = whole (cs ++ c ∷ []) n x (omega (arith, le, one_longer cs c)) (subst (λ (s : DurableState). StandsFor x size s) (sym (fold_more found cs c)) stands)

  module _ (earlier : ℕ → Content → Type 0) (begun issued : ℕ) (old new : Life) (disk disk' : Facts) (c : Change) (moments : List ℕ) (up : old.doubt ≡ None) (was : AreKept size found earlier begun issued old.journal old.doubt disk moments) where
    abbrev cs : List Change
    cs = old.journal

    at_most : (i : ℕ) → i < length moments → issued + i ≤ length cs
    at_most i lt = let m = was.many in omega (arith, lt, m)

    before : (i : ℕ) → i < length moments → KeptSince size found cs disk (get_or moments i 0) (issued + i)
    before i lt = subst (λ (ds : List Change). KeptSince size found ds disk (get_or moments i 0) (issued + i)) (sent_up old up) (was.kept i lt)

    at_least : issued ≤ length cs
    at_least = let m = was.many in let some = was.first.0 in omega (arith, m, some)

    early_enough : (t : ℕ) → t ≤ begun → t ≤ disk.moment
    early_enough t le = let p = was.passed 0 was.first.0 in let e = was.first.1 in omega (arith, le, p, e)

    ever_before : (t : ℕ) (x : Content) → t ≤ begun → disk.since t x → ∥ earlier t x ⊎ IsOfFirst size found cs issued x ∥₁
    ever_before t x le is = subst (λ (ds : List Change). ∥ earlier t x ⊎ IsOfFirst size found ds issued x ∥₁) (sent_up old up) (was.ever t x le is)

    module _ (any : LeavesSince disk disk' (StandsForEither size (fold found cs) (after (fold found cs) c))) where
      grown : (i : ℕ) → i < length moments → KeptSince size found (cs ++ c ∷ []) disk' (get_or moments i 0) (issued + i)
      grown i lt = went_by cs (cs ++ c ∷ []) disk disk' (StandsForEither size (fold found cs) (after (fold found cs) c)) (get_or moments i 0) (issued + i) (longer cs c (issued + i)) (either_of cs c (issued + i) (at_most i lt)) any (was.passed i lt) (before i lt)

      ever_grown : (t : ℕ) (x : Content) → t ≤ begun → disk'.since t x → ∥ earlier t x ⊎ IsOfFirst size found (cs ++ c ∷ []) issued x ∥₁
      ever_grown t x le is = elim (any.before t x (early_enough t le) is) [
        | inl early ↦ ∥∥₁_map (ever_before t x le early) (either_more (earlier t x) (IsOfFirst size found cs issued x) (IsOfFirst size found (cs ++ c ∷ []) issued x) (longer cs c issued x))
        | inr at ↦ ∣ inr (either_of cs c issued at_least x at) ∣₁
      ]

      -- in doubt
      doubted : new.journal ≡ cs → new.doubt ≡ Some c → AreKept size found earlier begun issued new.journal new.doubt disk' moments
      doubted journal doubt =
          let ds : sent new.journal new.doubt ≡ cs ++ c ∷ [] = ap (λ (js : List Change). js ++ option_to_list new.doubt) journal ∙ ap (λ (o : Option Change). cs ++ option_to_list o) doubt in
          record {
            first = was.first;
            many = was.many ∙ ap (λ (js : List Change). length js + 1) (sym journal);
            passed = λ i lt. let p = was.passed i lt in let q = any.later in omega (arith, p, q);
            ever = λ t x le is. subst (λ (js : List Change). ∥ earlier t x ⊎ IsOfFirst size found js issued x ∥₁) (sym ds) (ever_grown t x le is);
            kept = λ i lt. subst (λ (js : List Change). KeptSince size found js disk' (get_or moments i 0) (issued + i)) (sym ds) (grown i lt);
          }

      -- acknowledged
      told : new.journal ≡ cs ++ c ∷ [] → new.doubt ≡ None → ((x : Content) → disk'.since disk'.moment x → disk'.may_leave x) → LeavesOnly disk' size (after (fold found cs) c)
          → AreKept size found earlier begun issued new.journal new.doubt disk' (moments ++ disk'.moment ∷ [])
      told journal doubt only_now only =
          let ds : sent new.journal new.doubt ≡ cs ++ c ∷ [] = sent_up new doubt ∙ journal in
          let all = moments ++ disk'.moment ∷ [] in
          let m = was.many in
          let now = one_longer cs c in
          let count : length all ≡ length moments + 1 = length-append moments (disk'.moment ∷ []) in
          let js = ap (λ (js : List Change). length js) journal in
          let last : KeptSince size found (cs ++ c ∷ []) disk' disk'.moment (issued + length moments) =
          from_now (cs ++ c ∷ []) disk' (issued + length moments) (omega (arith, m, now)) only_now (subst (λ (s : DurableState). LeavesOnly disk' size s) (sym (fold_more found cs c)) only) in
          record {
            first = (let some = was.first.0 in omega (arith, some, count), (let e = get_or-append moments (disk'.moment ∷ []) 0 0 was.first.0 in let f = was.first.1 in omega (arith, e, f)));
            many = omega (arith, m, now, count, js);
            passed = λ i lt. elim (below_or_last i (omega (arith, lt, count))) [
              | inl under ↦ let p = was.passed i under in let q = any.later in let e = get_or-append moments (disk'.moment ∷ []) 0 i under in omega (arith, p, q, e)
              | inr is ↦ let e = ap (λ (k : ℕ). get_or all k 0) is ∙ get_or-append_seam moments disk'.moment [] 0 in omega (arith, e)
            ];
            ever = λ t x le is. subst (λ (js : List Change). ∥ earlier t x ⊎ IsOfFirst size found js issued x ∥₁) (sym ds) (ever_grown t x le is);
            kept = λ i lt. elim (below_or_last i (omega (arith, lt, count))) [
              | inl under ↦ subst (λ (js : List Change). KeptSince size found js disk' (get_or all i 0) (issued + i)) (sym ds)
                  (subst (λ (t : ℕ). KeptSince size found (cs ++ c ∷ []) disk' t (issued + i)) (sym (get_or-append moments (disk'.moment ∷ []) 0 i under)) (grown i under))
              | inr is ↦ subst (λ (js : List Change). KeptSince size found js disk' (get_or all i 0) (issued + i)) (sym ds)
                  (subst (λ (k : ℕ). KeptSince size found (cs ++ c ∷ []) disk' (get_or all k 0) (issued + k)) (sym is)
                  (subst (λ (t : ℕ). KeptSince size found (cs ++ c ∷ []) disk' t (issued + length moments)) (sym (get_or-append_seam moments disk'.moment [] 0)) last))
            ];
          }
        where
          below_or_last : (i : ℕ) → i < length moments + 1 → (i < length moments) ⊎ (i ≡ length moments)
          below_or_last i lt = elim (cases_lt i (length moments)) [ inl under ↦ inl under | inr over ↦ inr (omega (arith, lt, over)) ]

    -- refused by a number but 6
    still : LeavesSince disk disk' (λ x. StandsFor x size (fold found cs)) → new.journal ≡ cs → new.doubt ≡ None → AreKept size found earlier begun issued new.journal new.doubt disk' moments
    still each journal doubt =
        let ds : sent new.journal new.doubt ≡ cs = sent_up new doubt ∙ journal in
        record {
          first = was.first;
          many = was.many ∙ ap (λ (js : List Change). length js + 1) (sym journal);
          passed = λ i lt. let p = was.passed i lt in let q = each.later in omega (arith, p, q);
          ever = λ t x le is. subst (λ (js : List Change). ∥ earlier t x ⊎ IsOfFirst size found js issued x ∥₁) (sym ds) (elim (each.before t x (early_enough t le) is) [
            | inl early ↦ ever_before t x le early
            | inr at ↦ ∣ inr (whole cs issued x at_least at) ∣₁
          ]);
          kept = λ i lt. subst (λ (js : List Change). KeptSince size found js disk' (get_or moments i 0) (issued + i)) (sym ds)
              (went_by cs cs disk disk' (λ x. StandsFor x size (fold found cs)) (get_or moments i 0) (issued + i) (λ x of. of) (λ x stands. whole cs (issued + i) x (at_most i lt) stands) each (was.passed i lt) (before i lt));
        }

    -- and so by whatever answer
    pub step : (r : Result ℕ Refusal) → IsLeftBy c r old new → GoesTo disk disk' size (fold found cs) (after (fold found cs) c) r → ((x : Content) → disk'.since disk'.moment x → disk'.may_leave x)
        → AreKept size found earlier begun issued new.journal new.doubt disk' (moments_after r disk'.moment moments)
    step (Ok n) left goes only_now = told goes.any_moment left.0 (left.1 ∙ up) only_now goes.acknowledged
    step (Err e) (journal, inl doubt) goes only_now = doubted goes.any_moment journal doubt.1
    step (Err e) (journal, inr other) goes only_now = still (goes.still other.0) journal (other.1 ∙ up)

-- a life that has just begun to be shared, of which the boot issued those commands
pub begun_kept : (size : Size) (found : DurableState) (earlier : ℕ → Content → Type 0) (begun : ℕ) (issued : List Change) (life : Life) (disk : Facts) (moments : List ℕ) → disk.moment ≡ begun → ((t : ℕ) (x : Content) → disk.since t x → earlier t x) → life.journal ≡ issued → life.doubt ≡ None → ((x : Content) → disk.since disk.moment x → disk.may_leave x)
    → LeavesOnly disk size (fold found issued) → moments ≡ disk.moment ∷ [] → AreKept size found earlier begun (length issued) life.journal life.doubt disk moments
begun_kept size found earlier begun issued life disk moments at before journal up only_now only is =
    let n = length issued in
    let ds : sent life.journal life.doubt ≡ issued = sent_up size found life up ∙ journal in
    let first : KeptSince size found issued disk disk.moment n = from_now size found issued disk n (omega arith) only_now only in
    let js = ap (λ (cs : List Change). length cs) journal in
    subst (λ (ms : List ℕ). AreKept size found earlier begun n life.journal life.doubt disk ms) (sym is) (record {
      first = (omega arith, omega (arith, at));
      many = one_more n (length life.journal) js;
      ever = λ t x le is. ∣ inl (before t x is) ∣₁;
      passed = λ i lt. let z = is_zero i lt in let e = ap (λ (k : ℕ). get_or (disk.moment ∷ []) k 0) z in omega (arith, e);
      kept = λ i lt. subst (λ (cs : List Change). KeptSince size found cs disk (get_or (disk.moment ∷ []) i 0) (n + i)) (sym ds)
          (subst (λ (k : ℕ). KeptSince size found issued disk (get_or (disk.moment ∷ []) k 0) (n + k)) (sym (is_zero i lt)) (subst (λ (k : ℕ). KeptSince size found issued disk disk.moment k) (plus_zero n) first));
    })
  where
    one_more : (n m : ℕ) → m ≡ n → 1 + n ≡ m + 1
    one_more n m e = omega (arith, e)

    is_zero : (i : ℕ) → i < 1 → i ≡ 0
    is_zero i lt = omega (arith, lt)

    plus_zero : (n : ℕ) → n ≡ n + 0
    plus_zero n = omega arith

-- ---- stores
-- a durable call made a receipt just where the life is over
abbrev pub moments_by : Word → ℕ → List ℕ → List ℕ
moments_by (Goes did) moment moments = moments
moments_by (IsOver end) moment moments = moments ++ moment ∷ []

module _ {D L : Type 0} {g : Ghosts D L} {l : Lanes L} (found : DurableState) (size : Size) (earlier : ℕ → Content → Type 0) (begun issued : ℕ) where
  abbrev pub Kept : Store D L g l → List ℕ → Type 0
  Kept store moments = AreKept size found earlier begun issued (journal_of store) (doubt_of store) (disk_of store) moments

  -- no moment but this one is since this one
  abbrev pub IsOnlyNow : Store D L g l → Type 0
  IsOnlyNow store = (x : Content) → (disk_of store).since (disk_of store).moment x → (disk_of store).may_leave x

  goes_as : (old new : Store D L g l) (c : Change) (r : Result ℕ Refusal) → IsNamed found size old → GoesTo (disk_of old) (disk_of new) (size_of_store old) (now_of (life_of old)) (after (now_of (life_of old)) c) r
      → GoesTo (disk_of old) (disk_of new) size (fold found (life_of old).journal) (after (fold found (life_of old).journal) c) r
  goes_as old new c r is goes =
      subst (λ (s : DurableState). GoesTo (disk_of old) (disk_of new) size s (after s c) r) is.life.now
      (subst (λ (z : Size). GoesTo (disk_of old) (disk_of new) z (now_of (life_of old)) (after (now_of (life_of old)) c) r) is.board goes)

  same_kept : (old new : Store D L g l) (moments : List ℕ) → new ≡ old → Kept old moments → Kept new moments
  same_kept old new moments same was = subst (λ (s : Store D L g l). Kept s moments) (sym same) was

  down_kept : (old new : Store D L g l) (r : Result ℕ Refusal) (moments : List ℕ) → (r ≡ Err Down) × (new ≡ old) → Kept old moments → Kept new (moments_after r (disk_of new).moment moments)
  down_kept old new r moments p was = subst (λ (x : Result ℕ Refusal). Kept new (moments_after x (disk_of new).moment moments)) (sym p.0) (same_kept old new moments p.1 was)

  pub asked_kept : (old new : Store D L g l) (c : Change) (r : Result ℕ Refusal) (x : Option Change) (moments : List ℕ) → doubt_of old ≡ x → IsNamed found size old → IsOnlyNow new → Asked Applied old c r new → Kept old moments
      → Kept new (moments_after r (disk_of new).moment moments)
  asked_kept old new c r None moments e is only_now asked was =
      let a = asked.answered e in
      step size found earlier begun issued (life_of old) (life_of new) (disk_of old) (disk_of new) c moments e was r (applied_left (life_of old) (life_of new) c r a.life) (goes_as old new c r is a.leaves) only_now
  asked_kept old new c r (Some d) moments e is only_now asked was = down_kept old new r moments (asked.down d e) was

  slept_kept : (old new : Store D L g l) (Fits : Type 0) (c : Change) (r : Result ℕ Refusal) (x : Option Change) (moments : List ℕ) → doubt_of old ≡ x → IsNamed found size old → IsOnlyNow new → Asked (Suspended Fits) old c r new → Kept old moments
      → Kept new (moments_after r (disk_of new).moment moments)
  slept_kept old new Fits c r None moments e is only_now asked was =
      let a = asked.answered e in
      step size found earlier begun issued (life_of old) (life_of new) (disk_of old) (disk_of new) c moments e was r (suspended_left Fits (life_of old) (life_of new) c r a.life) (goes_as old new c r is a.leaves) only_now
  slept_kept old new Fits c r (Some d) moments e is only_now asked was = down_kept old new r moments (asked.down d e) was

  -- ---- a durable call
  pub held_kept : (old new : Store D L g l) (moments : List ℕ) → IsNamed found size old → IsOnlyNow new → Kept old moments → (harts : ℕ) (call : Call) (s t : ArchState) (k k' : Known) (bus bus' : Bus) (word : Word)
      → MakesHeld harts call s t k k' bus bus' old new word → Kept new (moments_by word (disk_of new).moment moments)
  held_kept old new moments is only_now was harts call s t k k' bus bus' word made =
      let After : Change → Result ℕ Refusal → Type 0 = λ c r. Kept new (moments_after r (disk_of new).moment moments) in
      let Told : Word → Type 0 = λ w. Kept new (moments_by w (disk_of new).moment moments) in
      let so : Tells old new After Told = record {
        same = λ did same. same_kept old new moments same was;
        reset = λ cause r asked. asked_kept old new (Reset cause) r (doubt_of old) moments refl is only_now asked was;
        slept = λ by site opaque memory r asked. slept_kept old new _ (Suspend by site opaque memory) r (doubt_of old) moments refl is only_now asked was;
        over = λ c n end ends after. after;
        goes = λ c e did after. after;
      } in
      held_told old new After Told so harts call s t k k' bus bus' word made
