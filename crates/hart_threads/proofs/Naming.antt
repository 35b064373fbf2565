-- A command keeps the name of a store's life.
use Rattle.std.proofs.Common.{◌≡◌, ◌∙◌, ◌&&◌, ℕ, zero, suc, ◌+◌, ◌<◌, ◌≤◌, Bool, true, false, List, [], ◌∷◌, ◌++◌, Option, Some, None, Result, Ok, Err, length, take, is_none, arith, refl, sym, ap, subst, inl, inr}
use Rattle.board_model.specs.{Durable.{DurableState, Change, after, fold, refusal_of}, Shapes.Size, Views.{durable_of, number_of_refusal}}
use Rattle.board_model.specs.declared.{durable.Durable.Durable, refusal.Refusal.{Refusal, TheVariants.Down}}
use Rattle.disk.specs.{declared.{device.{Disk.Ghosts, Lane.{Ghosts as Lanes}}}}
use Rattle.store.specs.{Lives.{Life, Applied, Refused, Suspended, SuspendRefused}, Views.{life_of, doubt_of, journal_of}, Asked.Asked}
use Rattle.store.specs.{declared.stores.Store.Store, Taken.are_taken}
use Rattle.hart_threads.specs.Legal.{BeginsWith, IsLifeOf, IsNamed, MayAnswer}

-- ---- one command more
pub fold_more : (s : DurableState) (cs : List Change) (c : Change) → fold s (cs ++ c ∷ []) ≡ after (fold s cs) c
fold_more s [] c = refl
fold_more s (d ∷ cs) c = fold_more (after s d) cs c

pub and_true : (a b : Bool) → a && b ≡ true → (a ≡ true) × (b ≡ true)
and_true true b e = (refl, e)
and_true false b e = let n : ⊥ = cc in absurd n

pub taken_more : (s : DurableState) (cs : List Change) (c : Change) → are_taken s cs ≡ true → refusal_of (fold s cs) c ≡ None → are_taken s (cs ++ c ∷ []) ≡ true
taken_more s [] c taken free = ap (λ (o : Option ℕ). is_none o && true) free
taken_more s (d ∷ cs) c taken free =
    let both = and_true (is_none (refusal_of s d)) (are_taken (after s d) cs) taken in
    subst (λ (b : Bool). b && are_taken (after s d) (cs ++ c ∷ []) ≡ true) (sym both.0) (taken_more (after s d) cs c both.1 free)

-- what is shown, by a state that is the same
pub shown_as : (d : Durable) (s t : DurableState) → d ≡ durable_of s → s ≡ t → d ≡ durable_of t
shown_as d s t is same = is ∙ ap (λ (x : DurableState). durable_of x) same

-- ---- lives
pub applied_keeps : (found : DurableState) (old new : Life) (c : Change) (n : ℕ) → IsLifeOf found old → Applied old c (Ok n) new → IsLifeOf found new
applied_keeps found old new c n is told = subst (λ (x : Life). IsLifeOf found x) (sym told.2) (record {
  heads = is.heads;
  now = fold_more old.found old.journal c ∙ ap (λ (s : DurableState). after s c) is.now ∙ sym (fold_more found old.journal c);
  taken = taken_more found old.journal c is.taken (subst (λ (s : DurableState). refusal_of s c ≡ None) is.now told.0.2);
})

-- what a refusal leaves of a life: all but a doubt
pub record Stays (old new : Life) : Type 0 where
  pub found : new.found ≡ old.found
  pub journal : new.journal ≡ old.journal
  pub over : new.over ≡ old.over

same_stays : (old new : Life) → new ≡ old → Stays old new
same_stays old new e = record { found = ap (λ (x : Life). x.found) e; journal = ap (λ (x : Life). x.journal) e; over = ap (λ (x : Life). x.over) e }

pub refused_stays : (old new : Life) (c : Change) (e : Refusal) → Refused old c e new → Stays old new
refused_stays old new c e (inl p) = same_stays old new p.2
refused_stays old new c e (inr (inl p)) = record { found = ap (λ (x : Life). x.found) p.2; journal = ap (λ (x : Life). x.journal) p.2; over = ap (λ (x : Life). x.over) p.2 }
refused_stays old new c e (inr (inr (inl p))) = same_stays old new p.2
refused_stays old new c e (inr (inr (inr (inl p)))) = same_stays old new p.3
refused_stays old new c e (inr (inr (inr (inr p)))) = same_stays old new p.3

pub suspend_stays : (Fits : Type 0) (old new : Life) (c : Change) (e : Refusal) → SuspendRefused Fits old c e new → Stays old new
suspend_stays Fits old new c e (inl p) = refused_stays old new c e p.1
suspend_stays Fits old new c e (inr (inl p)) = same_stays old new p.4
suspend_stays Fits old new c e (inr (inr (inl p))) = same_stays old new p.3
suspend_stays Fits old new c e (inr (inr (inr (inl p)))) = same_stays old new p.2
suspend_stays Fits old new c e (inr (inr (inr (inr p)))) = same_stays old new p.3

stays_named : (found : DurableState) (old new : Life) → IsLifeOf found old → Stays old new → IsLifeOf found new
stays_named found old new is stays = record {
  heads = ap (λ (s : DurableState). durable_of s) stays.found ∙ is.heads;
  now = subst (λ (s : DurableState). fold s new.journal ≡ fold found new.journal) (sym stays.found) (subst (λ (cs : List Change). fold old.found cs ≡ fold found cs) (sym stays.journal) is.now);
  taken = subst (λ (cs : List Change). are_taken found cs ≡ true) (sym stays.journal) is.taken;
}

-- what a command does to the journal
abbrev pub Adds : Change → Result ℕ Refusal → List Change → List Change → Type 0
Adds c (Ok n) old new = (new ≡ old ++ c ∷ []) × (n ≡ length old + 1) × (length old < 4096)
Adds c (Err e) old new = new ≡ old

pub applied_named : (found : DurableState) (old new : Life) (c : Change) (r : Result ℕ Refusal) → IsLifeOf found old → Applied old c r new → IsLifeOf found new × Adds c r old.journal new.journal
applied_named found old new c (Ok n) is told = (applied_keeps found old new c n is told, (ap (λ (x : Life). x.journal) told.2, told.1, told.0.1))
applied_named found old new c (Err e) is told = let stays = refused_stays old new c e told in (stays_named found old new is stays, stays.journal)

may_refuse : (found : DurableState) (old new : Life) (c : Change) (e : Refusal) → IsLifeOf found old → Refused old c e new → MayAnswer found c (Err e)
may_refuse found old new c e is (inl p) = inl p.0
may_refuse found old new c e is (inr (inl p)) = inr (inl p.0)
may_refuse found old new c e is (inr (inr (inl p))) = inr (inr (inl p.0))
may_refuse found old new c e is (inr (inr (inr (inl p)))) = inr (inr (inr (inl p.0)))
may_refuse found old new c e is (inr (inr (inr (inr p)))) =
    inr (inr (inr (inr (old.journal, is.taken, subst (λ (s : DurableState). refusal_of s c ≡ Some (number_of_refusal e)) is.now p.0))))

pub may_answer : (found : DurableState) (old new : Life) (c : Change) (r : Result ℕ Refusal) → IsLifeOf found old → Applied old c r new → MayAnswer found c r
may_answer found old new c (Ok n) is told =
    let few = told.0.1 in
    let place = told.1 in
    (old.journal, taken_more found old.journal c is.taken (subst (λ (s : DurableState). refusal_of s c ≡ None) is.now told.0.2), place, omega (arith, few, place))
may_answer found old new c (Err e) is told = may_refuse found old new c e is told

mid_named : (found : DurableState) (old new : Life) (Fits : Type 0) (c : Change) (r : Result ℕ Refusal) → IsLifeOf found old → Suspended Fits old c r new → IsLifeOf found (record old { found = new.found })
mid_named found old new Fits c r is did = record { heads = did.reseen.heads ∙ is.heads; now = did.reseen.now ∙ is.now; taken = is.taken }

pub suspended_named : (found : DurableState) (old new : Life) (Fits : Type 0) (c : Change) (r : Result ℕ Refusal) → IsLifeOf found old → Suspended Fits old c r new → IsLifeOf found new × Adds c r old.journal new.journal
suspended_named found old new Fits c (Ok n) is did =
    let mid : Life = record old { found = new.found } in
    applied_named found mid new c (Ok n) (mid_named found old new Fits c (Ok n) is did) did.told.1
suspended_named found old new Fits c (Err e) is did =
    let mid : Life = record old { found = new.found } in
    let stays = suspend_stays Fits mid new c e did.told in
    (stays_named found mid new (mid_named found old new Fits c (Err e) is did) stays, stays.journal)

-- ---- what a journal begins with
whole : (xs : List Change) → take (length xs) xs ≡ xs
whole [] = refl
whole (x ∷ xs) = ap (λ (ys : List Change). x ∷ ys) (whole xs)

front : (n : ℕ) (xs ys : List Change) → n ≤ length xs → take n (xs ++ ys) ≡ take n xs
front zero xs ys le = refl
front (suc n) [] ys le = absurd (omega arith)
front (suc n) (x ∷ xs) ys le = ap (λ (zs : List Change). x ∷ zs) (front n xs ys (omega arith))

at_most : (n : ℕ) (xs : List Change) → length (take n xs) ≤ length xs
at_most zero xs = omega arith
at_most (suc n) [] = omega arith
at_most (suc n) (x ∷ xs) = let i = at_most n xs in omega (arith, i)

pub begins_on : (issued old new : List Change) (c : Change) → BeginsWith issued old → new ≡ old ++ c ∷ [] → BeginsWith issued new
begins_on issued old new c was is =
    let shorter = at_most (length issued) old in
    let same = ap (λ (cs : List Change). length cs) was in
    let within : length issued ≤ length old = omega (arith, shorter, same) in
    ap (λ (cs : List Change). take (length issued) cs) is ∙ (front (length issued) old (c ∷ []) within ∙ was)

pub begins_still : (issued old new : List Change) → BeginsWith issued old → new ≡ old → BeginsWith issued new
begins_still issued old new was is = ap (λ (cs : List Change). take (length issued) cs) is ∙ was

-- ---- stores
module _ {D L : Type 0} {g : Ghosts D L} {l : Lanes L} where
  abbrev pub Becomes : DurableState → Size → Change → Result ℕ Refusal → Store D L g l → Store D L g l → Type 0
  Becomes found size c r old new = IsNamed found size new × Adds c r (journal_of old) (journal_of new)

  stays_same : (found : DurableState) (size : Size) (old new : Store D L g l) (c : Change) (r : Result ℕ Refusal) → IsNamed found size old → (r ≡ Err Down) × (new ≡ old) → Becomes found size c r old new
  stays_same found size old new c r is p =
      subst (λ (x : Result ℕ Refusal). Becomes found size c x old new) (sym p.0) (subst (λ (s : Store D L g l). IsNamed found size s) (sym p.1) is, ap (λ (s : Store D L g l). journal_of s) p.1)

  pub asked_named : (found : DurableState) (size : Size) (old new : Store D L g l) (c : Change) (r : Result ℕ Refusal) (x : Option Change) → doubt_of old ≡ x → IsNamed found size old → Asked Applied old c r new → Becomes found size c r old new
  asked_named found size old new c r None e is asked =
      let did = applied_named found (life_of old) (life_of new) c r is.life (asked.answered e).life in
      (record { board = asked.stays.board ∙ is.board; life = did.0 }, did.1)
  asked_named found size old new c r (Some d) e is asked = stays_same found size old new c r is (asked.down d e)

  pub slept_named : (found : DurableState) (size : Size) (old new : Store D L g l) (Fits : Type 0) (c : Change) (r : Result ℕ Refusal) (x : Option Change) → doubt_of old ≡ x → IsNamed found size old → Asked (Suspended Fits) old c r new → Becomes found size c r old new
  slept_named found size old new Fits c r None e is asked =
      let did = suspended_named found (life_of old) (life_of new) Fits c r is.life (asked.answered e).life in
      (record { board = asked.stays.board ∙ is.board; life = did.0 }, did.1)
  slept_named found size old new Fits c r (Some d) e is asked = stays_same found size old new c r is (asked.down d e)

  pub asked_may : (found : DurableState) (size : Size) (old new : Store D L g l) (c : Change) (r : Result ℕ Refusal) (x : Option Change) → doubt_of old ≡ x → IsNamed found size old → Asked Applied old c r new → MayAnswer found c r
  asked_may found size old new c r None e is asked = may_answer found (life_of old) (life_of new) c r is.life (asked.answered e).life
  asked_may found size old new c r (Some d) e is asked = subst (λ (x : Result ℕ Refusal). MayAnswer found c x) (sym (asked.down d e).0) (inr (inl refl))
