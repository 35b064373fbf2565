-- A view shows one table of states, which `state_in` computes.
use Rattle.std.proofs.Common.{rules, ◌≡◌, ◌≢◌, ◌⊎◌, ℕ, ◌+◌, ◌<◌, ◌≤◌, true, false, List, [], ◌∷◌, Option, Some, None, refl, sym, ap, ◌∙◌, subst, ⊎_elim, inl, inr, arith, eq-eqb, ne_eqb}
use Rattle.std.{specs.Prelude.{nat_lt, length, slice_set}, proofs.lemmas.{List.{length-set, get_or-set_other}, Grind.get_or-set_at}}
use mathlib.Core.Logic.{dite}
use native.Mathlib.Decide.{ℕ_discrete}
use Rattle.tallies.{specs.Sums.total, proofs.Seatings.map_all}
use Rattle.hsm.specs.declared.view.{Stage.{Stage, TheVariants.{Out, Ready, Addressed, Loaded, Suspended}}, Action.Action}
use Rattle.hsm.specs.declared.view.Action.TheVariants.{Claimed, Wrote, Armed, Looked, Read, Entered, Stopped, Suspended as DidSuspend, Woke, Quieted, Unquieted}
use Rattle.hsm.{specs.{Words.{HartView, HartSeatView}, Rule.{claim_of, entry_of, did}}, proofs.Stand.stands_stage}
use Rattle.hsm.specs.States.{HartState, stopped, start_pending, started, suspended, awaits, is_outside, is_running, is_suspended, IsIn, Shows, change_at}
use Rattle.hsm.specs.Views.{first_of, open_by, open_start, outside, state_by_stage, state_in, states_in, listed, AreStates}

-- ---- a start that is pending is found
module _ {A B : Type 0} (f : A → Option B) where
  pub first_none : ((x : A) → f x ≡ None) → (xs : List A) → first_of f xs ≡ None
  first_none none [] = refl
  first_none none (x ∷ xs) = rw (none x) (first_none none xs)

  -- where each that is found is b, and one of some weight is found
  pub first_one : (b : B) (g : A → ℕ) → ((x : A) → (f x ≡ None) ⊎ (f x ≡ Some b)) → ((x : A) → f x ≡ None → g x ≡ 0) → (xs : List A) → (first_of f xs ≡ Some b) ⊎ ((first_of f xs ≡ None) × (total g xs ≡ 0))
  first_one b g only weighs [] = inr (refl, refl)
  first_one b g only weighs (x ∷ xs) =
      ⊎_elim
      (λ (none : f x ≡ None). ⊎_elim
      (λ (rest : first_of f xs ≡ Some b). inl (rw none rest))
      (λ (rest : (first_of f xs ≡ None) × (total g xs ≡ 0)). inr (rw none rest.0, (let p = weighs x none in let q = rest.1 in omega arith)))
      (first_one b g only weighs xs))
      (λ (some : f x ≡ Some b). inl (rw some refl))
      (only x)

awaits_none : (b d a o : ℕ) → awaits (start_pending b d) a o ≢ 0 → (a ≡ b) × (o ≡ d)
awaits_none b d a o n =
    dite (ℕ_discrete b a)
    (λ p. dite (ℕ_discrete d o)
    (λ q. (sym p, sym q))
    (λ q. absurd (n (rw (eq-eqb b a p, ne_eqb d o q) refl))))
    (λ p. absurd (n (rw (ne_eqb b a p) refl)))

awaits_own : (a o : ℕ) → awaits (start_pending a o) a o ≡ 1
awaits_own a o = rw (eq-eqb a a refl, eq-eqb o o refl) refl

lt_true : (m n : ℕ) → m < n → nat_lt m n ≡ true
lt_true m n lt = search (arith, rules)

lt_false : (m n : ℕ) → n ≤ m → nat_lt m n ≡ false
lt_false m n le = search (arith, rules)

module _ (h : ℕ) (c : HartSeatView) where
  abbrev pub Weighs : HartState → Type 0
  Weighs x = (a o : ℕ) → did (claim_of h a o) c ≡ did (entry_of h a o) c + awaits x a o

  none_open : (x : HartState) → ((a o : ℕ) → awaits x a o ≡ 0) → Weighs x → (d : Action) → open_by h c d ≡ None
  none_open x settled e (Claimed t a o found) =
      let f : nat_lt (did (entry_of h a o) c) (did (claim_of h a o) c) ≡ false = lt_false _ _ (let p = e a o in let q = settled a o in omega arith) in
      dite (ℕ_discrete t h) (λ hit. rw (eq-eqb t h hit, f) refl) (λ miss. rw (ne_eqb t h miss) refl)
  none_open x settled e (Wrote n w) = refl
  none_open x settled e (Armed t) = refl
  none_open x settled e (Looked w) = refl
  none_open x settled e (Read n w) = refl
  none_open x settled e (Entered k a o ps) = refl
  none_open x settled e (Stopped w) = refl
  none_open x settled e (DidSuspend w) = refl
  none_open x settled e (Woke w) = refl
  none_open x settled e (Quieted w) = refl
  none_open x settled e (Unquieted w) = refl

  pub closed : (x : HartState) → ((a o : ℕ) → awaits x a o ≡ 0) → Weighs x → open_start h c ≡ None
  closed x settled e = first_none _ (λ v. first_none (open_by h c) (none_open x settled e) v.actions) c.harts

  module _ (b d : ℕ) (e : Weighs (start_pending b d)) where
    only : (x : Action) → (open_by h c x ≡ None) ⊎ (open_by h c x ≡ Some (b, d))
    only (Claimed t a o found) =
        dite (ℕ_discrete t h)
        (λ hit. dite (ℕ_discrete (awaits (start_pending b d) a o) 0)
        (λ z. let f : nat_lt (did (entry_of h a o) c) (did (claim_of h a o) c) ≡ false = lt_false _ _ (let p = e a o in omega arith) in inl (rw (eq-eqb t h hit, f) refl))
        (λ nz.
        let same = awaits_none b d a o nz in
        let f : nat_lt (did (entry_of h a o) c) (did (claim_of h a o) c) ≡ true = lt_true _ _ (let p = e a o in omega arith) in
        inr (rw (eq-eqb t h hit, f) (ap (λ (p : ℕ × ℕ). Some p) (ap (λ n. (n, o)) same.0 ∙ ap (λ n. (b, n)) same.1)))))
        (λ miss. inl (rw (ne_eqb t h miss) refl))
    only (Wrote n w) = inl refl
    only (Armed t) = inl refl
    only (Looked w) = inl refl
    only (Read n w) = inl refl
    only (Entered k a o ps) = inl refl
    only (Stopped w) = inl refl
    only (DidSuspend w) = inl refl
    only (Woke w) = inl refl
    only (Quieted w) = inl refl
    only (Unquieted w) = inl refl

    -- a claim with these values, where none is open with them, is none
    weightless : (x : Action) → open_by h c x ≡ None → claim_of h b d x ≡ 0
    weightless (Claimed t a o found) none =
        dite (ℕ_discrete t h)
        (λ hit. dite (ℕ_discrete a b)
        (λ p. dite (ℕ_discrete o d)
        (λ q. absurd (
        let f : nat_lt (did (entry_of h a o) c) (did (claim_of h a o) c) ≡ true = lt_true _ _ (let w = e a o in let v : awaits (start_pending b d) a o ≡ 1 = rw (eq-eqb b a (sym p), eq-eqb d o (sym q)) refl in omega arith) in
        let s : open_by h c (Claimed t a o found) ≡ Some (a, o) = rw (eq-eqb t h hit, f) refl in
        let z : ◌≡◌ {A = Option (ℕ × ℕ)} (Some (a, o)) None = sym s ∙ none in let n : ⊥ = cc in n))
        (λ q. rw (eq-eqb t h hit, eq-eqb a b p, ne_eqb o d q) refl))
        (λ p. rw (eq-eqb t h hit, ne_eqb a b p) refl))
        (λ miss. rw (ne_eqb t h miss) refl)
    weightless (Wrote n w) none = refl
    weightless (Armed t) none = refl
    weightless (Looked w) none = refl
    weightless (Read n w) none = refl
    weightless (Entered k a o ps) none = refl
    weightless (Stopped w) none = refl
    weightless (DidSuspend w) none = refl
    weightless (Woke w) none = refl
    weightless (Quieted w) none = refl
    weightless (Unquieted w) none = refl

    by_hart : (v : HartView) → (first_of (open_by h c) v.actions ≡ Some (b, d)) ⊎ ((first_of (open_by h c) v.actions ≡ None) × (total (claim_of h b d) v.actions ≡ 0))
    by_hart v = first_one (open_by h c) (b, d) (claim_of h b d) only weightless v.actions

    pub opened : open_start h c ≡ Some (b, d)
    opened =
        ⊎_elim
        (λ (s : open_start h c ≡ Some (b, d)). s)
        (λ (z : (open_start h c ≡ None) × (did (claim_of h b d) c ≡ 0)). absurd (let w = e b d in let one = awaits_own b d in let n = z.1 in omega arith))
        (first_one (λ (v : HartView). first_of (open_by h c) v.actions) (b, d) (λ (v : HartView). total (claim_of h b d) v.actions)
        (λ v. ⊎_elim (λ (s : first_of (open_by h c) v.actions ≡ Some (b, d)). inr s) (λ (z : (first_of (open_by h c) v.actions ≡ None) × (total (claim_of h b d) v.actions ≡ 0)). inl z.0) (by_hart v))
        (λ v none. ⊎_elim (λ (s : first_of (open_by h c) v.actions ≡ Some (b, d)). absurd (let z : ◌≡◌ {A = Option (ℕ × ℕ)} (Some (b, d)) None = sym s ∙ none in let n : ⊥ = cc in n)) (λ (z : (first_of (open_by h c) v.actions ≡ None) × (total (claim_of h b d) v.actions ≡ 0)). z.1) (by_hart v))
        c.harts)

at_running : (st : Stage) (start : Option (ℕ × ℕ)) → is_running st ≡ true → state_by_stage st start ≡ started
at_running st start e = rw e refl

at_suspended : (st : Stage) (start : Option (ℕ × ℕ)) → is_suspended st ≡ true → state_by_stage st start ≡ suspended
at_suspended Suspended start e = refl
at_suspended st start e = absurd (cc)

at_outside : (st : Stage) (start : Option (ℕ × ℕ)) → is_outside st ≡ true → state_by_stage st start ≡ outside start
at_outside Out start e = refl
at_outside Ready start e = refl
at_outside (Addressed a) start e = refl
at_outside (Loaded a o) start e = refl
at_outside st start e = absurd (cc)

-- the state that a view tells is the one that is computed of it
pub state_is : (c : HartSeatView) (h : ℕ) (x : HartState) → IsIn c h x → state_in c h ≡ x
state_is c h stopped i =
    ap (λ (s : Stage). state_by_stage s (open_start h c)) (stands_stage h i.0 c.harts i.1) ∙ (at_outside i.0 (open_start h c) i.2 ∙ ap outside (closed h c stopped (λ a o. refl) i.3))
state_is c h (start_pending b d) i =
    ap (λ (s : Stage). state_by_stage s (open_start h c)) (stands_stage h i.0 c.harts i.1) ∙ (at_outside i.0 (open_start h c) i.2 ∙ ap outside (opened h c b d i.3))
state_is c h started i =
    ap (λ (s : Stage). state_by_stage s (open_start h c)) (stands_stage h i.0 c.harts i.1) ∙ at_running i.0 (open_start h c) i.2
state_is c h suspended i =
    ap (λ (s : Stage). state_by_stage s (open_start h c)) (stands_stage h i.0 c.harts i.1) ∙ at_suspended i.0 (open_start h c) i.2

pub seat_determines_states : (harts : ℕ) (c : HartSeatView) (states : ℕ → HartState) → Shows harts c states → (h : ℕ) → h < harts → state_in c h ≡ states h
seat_determines_states harts c states shown h lt = state_is c h (states h) (shown h lt)

-- so the states that a view shows are those computed of it
pub shows_seen : (harts : ℕ) (c : HartSeatView) (states : ℕ → HartState) → Shows harts c states → Shows harts c (state_in c)
shows_seen harts c states shown h lt = subst (λ (x : HartState). IsIn c h x) (sym (seat_determines_states harts c states shown h lt)) (shown h lt)

-- ---- the states as a list
pub one_list : (harts : ℕ) (c : HartSeatView) (states : List HartState) → AreStates harts c states → states_in harts c ≡ states
one_list harts c states are = map_all (state_in c) stopped harts states are.0 (seat_determines_states harts c (listed states) are.1)

pub changed : (harts h : ℕ) (f : HartState → HartState) (c : HartSeatView) (states : List HartState) → length states ≡ harts → h < harts → Shows harts c (change_at h f (listed states)) → AreStates harts c (slice_set states h (f (listed states h)))
changed harts h f c states e lt shown = (
  length-set states h (f (listed states h)) ∙ e,
  (λ k below. subst (λ (x : HartState). IsIn c k x) (dite (ℕ_discrete k h)
      (λ hit. let there : h < length states = omega (arith, e, lt) in
      let l : change_at h f (listed states) k ≡ f (listed states k) = rw (eq-eqb k h hit) refl in
      l ∙ (ap (λ n. f (listed states n)) hit ∙ sym (get_or-set_at states h k (f (listed states h)) stopped hit there)))
      (λ miss. let l : change_at h f (listed states) k ≡ listed states k = rw (ne_eqb k h miss) refl in
      l ∙ sym (get_or-set_other states h k (f (listed states h)) stopped miss)))
      (shown k below)),
)
