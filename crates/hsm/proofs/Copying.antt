-- A table that is made of another's states, hart by hart.
use Rattle.std.proofs.Common.{◌≡◌, ◌≢◌, ℕ, ◌+◌, ◌<◌, ◌≤◌, ⊎_elim, Bool, true, true≢false, if◌then◌else◌, eqb, refl, sym, ap, ◌∙◌, subst, arith, eq-eqb, ne_eqb, List, None, Some, Option, MatchOption, MatchBool, IsSome, IsTrue, ◌↔◌}
use Rattle.std.{specs.Option.IfNone, proofs.lemmas.Bool.{le-ltb, lt-ltb, cases_lt}}
use mathlib.Core.Logic.{dite}
use native.Mathlib.Decide.{ℕ_discrete}
use Rattle.tallies.{specs.{Notes.numbers, Seats.numbers_from}, proofs.Seatings.{at_all, map_all}}
use Rattle.hsm.specs.{declared.view.Stage.{Stage, TheVariants.{Out, Running, Quiet}}, Words.{HartView, HartSeatView}, Rule.{IsSite, stands}}
use Rattle.hsm.specs.States.{HartState, stopped, start_pending, started, suspended, Says, is_outside, is_suspended, IsAt, IsIn, Shows, change_at, grant}
use Rattle.hsm.{specs.{Outcomes.{opening_states, IsStartAddress, IsStartOpaque}, declared.state.State.State}, proofs.Alone.stands_once}
use Rattle.hsm.{specs.{Calls.{KeepsOthers, named, state_in_word}, Views.{state_in, states_in, listed, AreStates}}, proofs.Stages.named_is}
use Rattle.hsm.specs.Copies.{IsSettled, IsShown, IsAtRest, Becomes, IsMade, rest_stage, stage_by, so_far}
use Rattle.hsm.proofs.Computed.{seat_determines_states, shows_seen}
use Rattle.hsm.specs.declared.state.State.TheVariants as codes

-- ---- one state of many
pub here : (h : ℕ) (f : HartState → HartState) (states : ℕ → HartState) (k : ℕ) → k ≡ h → change_at h f states k ≡ f (states h)
here h f states k e = rw (eq-eqb k h e) (ap (λ (n : ℕ). f (states n)) e)

pub elsewhere : (h : ℕ) (f : HartState → HartState) (states : ℕ → HartState) (k : ℕ) → k ≢ h → change_at h f states k ≡ states k
elsewhere h f states k ne = rw (ne_eqb k h ne) refl

-- ---- one hart comes to a state
module _ (harts h : ℕ) (x : HartState) (c c' : HartSeatView) where
  -- where each hart stands after a call of one of them, which changes the state of h
  pub becomes : (f : HartState → HartState) → f (state_in c h) ≡ x → numbers c'.harts ≡ numbers c.harts → stands h (rest_stage x) c'.harts
      → ((k : ℕ) → k < harts → k ≢ h → stands k (rest_stage (state_in c k)) c'.harts) → Shows harts c' (change_at h f (state_in c)) → Becomes harts h x c c'
  becomes f is same own others shown = record {
    rests = record {
      shown = shows_seen harts c' (change_at h f (state_in c)) shown;
      each = λ k lt. dite (ℕ_discrete k h)
          (λ e.
          let now : state_in c' k ≡ x = seat_determines_states harts c' (change_at h f (state_in c)) shown k lt ∙ (here h f (state_in c) k e ∙ is) in
          subst (λ (y : HartState). stands k (rest_stage y) c'.harts) (sym now) (subst (λ (n : ℕ). stands n (rest_stage x) c'.harts) (sym e) own))
          (λ ne.
          let now : state_in c' k ≡ state_in c k = seat_determines_states harts c' (change_at h f (state_in c)) shown k lt ∙ elsewhere h f (state_in c) k ne in
          subst (λ (y : HartState). stands k (rest_stage y) c'.harts) (sym now) (others k lt ne));
    };
    numbered = same;
    states = λ k lt. seat_determines_states harts c' (change_at h f (state_in c)) shown k lt ∙ dite (ℕ_discrete k h)
        (λ e. here h f (state_in c) k e ∙ (is ∙ sym (here h (λ _. x) (state_in c) k e)))
        (λ ne. elsewhere h f (state_in c) k ne ∙ sym (elsewhere h (λ _. x) (state_in c) k ne));
  }

  -- a call by which the hart h itself comes to the state
  pub comes : (f : HartState → HartState) → IsAtRest harts c → f (state_in c h) ≡ x → stands h (rest_stage x) c'.harts → KeepsOthers h c.harts c'.harts
      → Shows harts c' (change_at h f (state_in c)) → Becomes harts h x c c'
  comes f rest is own others shown =
      becomes f is others.harts own (λ k lt ne. others.stages k (rest_stage (state_in c k)) ne (rest.each k lt)) shown

-- where a hart at rest stands that is in a state
pub stood : (harts h : ℕ) (c : HartSeatView) → IsAtRest harts c → h < harts → {x : HartState} → state_in c h ≡ x → stands h (rest_stage x) c.harts
stood harts h c rest lt is = subst (λ (y : HartState). stands h (rest_stage y) c.harts) is (rest.each h lt)

-- a start of h by another hart
pub pended : (harts by h a o : ℕ) (c c' : HartSeatView) → IsAtRest harts c → by < harts → h < harts → state_in c by ≡ started → state_in c h ≡ stopped
    → stands by Running c'.harts → KeepsOthers by c.harts c'.harts → Shows harts c' (change_at h (grant a o) (state_in c)) → Becomes harts h (start_pending a o) c c'
pended harts by h a o c c' rest bl hl runs stops own others shown =
    becomes harts h (start_pending a o) c c' (grant a o) (ap (grant a o) stops) others.harts (stage h Out hl (λ e. ne e) (ap rest_stage stops))
    (λ k lt other. dite (ℕ_discrete k by)
    (λ e. subst (λ (n : ℕ). stands n (rest_stage (state_in c n)) c'.harts) (sym e) (subst (λ (y : HartState). stands by (rest_stage y) c'.harts) (sym runs) own))
    (λ miss. others.stages k (rest_stage (state_in c k)) miss (rest.each k lt)))
    shown
  where
    ne : h ≢ by
    ne e = let two : stopped ≡ started = sym stops ∙ (ap (state_in c) e ∙ runs) in absurd (cc)

    stage : (k : ℕ) (st : Stage) → k < harts → k ≢ by → rest_stage (state_in c k) ≡ st → stands k st c'.harts
    stage k st lt miss is = others.stages k st miss (subst (λ (s : Stage). stands k s c.harts) is (rest.each k lt))

-- an entry that answers something left the hart running
pub entered : (h : ℕ) (told : Option (ℕ × ℕ)) (a o : ℕ) (vs : List HartView) → told ≡ Some (a, o) → MatchOption told (stands h Out vs) (λ _. stands h Running vs) → stands h Running vs
entered h told a o vs is stood = subst (λ (r : Option (ℕ × ℕ)). MatchOption r (stands h Out vs) (λ _. stands h Running vs)) is stood

-- one change after another
pub both : (harts h : ℕ) (x y : HartState) (c c' c'' : HartSeatView) → Becomes harts h x c c' → Becomes harts h y c' c'' → Becomes harts h y c c''
both harts h x y c c' c'' one two = record {
  rests = two.rests;
  numbered = two.numbered ∙ one.numbered;
  states = λ k lt. two.states k lt ∙ dite (ℕ_discrete k h)
      (λ e. here h (λ _. y) (state_in c') k e ∙ sym (here h (λ _. y) (state_in c) k e))
      (λ ne. elsewhere h (λ _. y) (state_in c') k ne ∙ (one.states k lt ∙ (elsewhere h (λ _. x) (state_in c) k ne ∙ sym (elsewhere h (λ _. y) (state_in c) k ne))));
}

-- ---- states by their names
pub pending_of : (x : HartState) → codes.StartPending ≡ named x → (a o : ℕ) × (x ≡ start_pending a o)
pending_of stopped e = absurd (cc)
pending_of (start_pending a o) e = (a, o, refl)
pending_of started e = absurd (cc)
pending_of suspended e = absurd (cc)

pub stopped_is : (x : HartState) → codes.Stopped ≡ named x → stopped ≡ x
stopped_is stopped e = refl
stopped_is (start_pending a o) e = absurd (cc)
stopped_is started e = absurd (cc)
stopped_is suspended e = absurd (cc)

pub started_is : (x : HartState) → codes.Started ≡ named x → started ≡ x
started_is stopped e = absurd (cc)
started_is (start_pending a o) e = absurd (cc)
started_is started e = refl
started_is suspended e = absurd (cc)

pub suspended_is : (x : HartState) → codes.Suspended ≡ named x → suspended ≡ x
suspended_is stopped e = absurd (cc)
suspended_is (start_pending a o) e = absurd (cc)
suspended_is started e = absurd (cc)
suspended_is suspended e = refl

-- a state of another name is settled
pub settled_is : (x : HartState) → (codes.StartPending ≡ named x → ⊥) → IsSettled x
settled_is stopped other = tt
settled_is (start_pending a o) other = other refl
settled_is started other = tt
settled_is suspended other = tt

-- the name that is read in the first word is that of the state
pub read_as : (found h : ℕ) (x : HartState) (r : State) → r ≡ state_in_word h found → Says found h x → r ≡ named x
read_as found h x r is says = is ∙ named_is found h x says

-- an answer that must be there
pub some_of : (o : Option ℕ) (P : Type 0) → IfNone o (P → ⊥) → P → IsSome o
some_of None P none p = absurd (none p)
some_of (Some x) P none p = refl

-- what a START_PENDING hart is to begin with, by looks at a seat of the same view
module _ (harts h : ℕ) (c : HartSeatView) (shown : IsShown harts c) (pends : (a o : ℕ) × (state_in c h ≡ start_pending a o)) where
  pub address_is : (d : HartSeatView) (found : ℕ) → d ≡ c → IsStartAddress harts d h found → (found ≡ pends.0) × IsSite found
  address_is d found same start = subst (λ (e : HartSeatView). IsStartAddress harts e h found) same start (state_in c) pends.0 pends.1 shown pends.2

  pub opaque_is : (d : HartSeatView) (found : ℕ) → d ≡ c → IsStartOpaque harts d h found → found ≡ pends.1
  opaque_is d found same start = subst (λ (e : HartSeatView). IsStartOpaque harts e h found) same start (state_in c) pends.0 pends.1 shown pends.2

-- ---- a quiet hart
at_quiet : (x : HartState) (st : Stage) → IsAt x st → st ≡ Quiet → x ≡ started
at_quiet stopped st at is = absurd (true≢false (sym at ∙ ap is_outside is))
at_quiet (start_pending a o) st at is = absurd (true≢false (sym at ∙ ap is_outside is))
at_quiet started st at is = refl
at_quiet suspended st at is = absurd (true≢false (sym at ∙ ap is_suspended is))

pub quiet_runs : (harts h : ℕ) (c : HartSeatView) → IsShown harts c → h < harts → stands h Quiet c.harts → state_in c h ≡ started
quiet_runs harts h c shown lt stood = let i = shown h lt in at_quiet (state_in c h) i.0 i.2 (stands_once h i.0 Quiet c.harts i.1 stood)

-- a hart finds itself alone where the other table shows that it is
pub found_alone : (m n h : ℕ) (b : Bool) (old own : HartSeatView) → m ≡ n → (IsTrue b ↔ ((t : ℕ) → t < m → t ≢ h → state_in own t ≡ stopped)) → ((t : ℕ) → t < n → t ≢ h → state_in old t ≡ stopped)
    → ((k : ℕ) → k < n → state_in own k ≡ state_in old k) → b ≡ true
found_alone m n h b old own many told alone same = told.1 (λ t lt ne. let under : t < n = omega arith in same t under ∙ alone t under ne)

pub then_quiet : (h : ℕ) (b : Bool) (vs : List HartView) → MatchBool b (stands h Quiet vs) (stands h Running vs) → b ≡ true → stands h Quiet vs
then_quiet h b vs stood is = subst (λ (x : Bool). MatchBool x (stands h Quiet vs) (stands h Running vs)) is stood

-- where each hart stands beside one that is quiet
pub stands_by_none : (harts : ℕ) (old c : HartSeatView) → IsAtRest harts c → ((k : ℕ) → k < harts → state_in c k ≡ state_in old k)
    → (h : ℕ) → h < harts → stands h (stage_by None h (state_in old h)) c.harts
stands_by_none harts old c rests same h lt = subst (λ (x : HartState). stands h (rest_stage x) c.harts) (same h lt) (rests.each h lt)

pub stands_by_one : (harts q : ℕ) (old c c' : HartSeatView) → IsAtRest harts c → ((k : ℕ) → k < harts → state_in c k ≡ state_in old k) → stands q Quiet c'.harts → KeepsOthers q c.harts c'.harts
    → (h : ℕ) → h < harts → stands h (stage_by (Some q) h (state_in old h)) c'.harts
stands_by_one harts q old c c' rests same own keeps h lt = dite (ℕ_discrete q h)
    (λ e.
    let is : stage_by (Some q) h (state_in old h) ≡ Quiet = rw (eq-eqb q h e) refl in
    subst (λ (s : Stage). stands h s c'.harts) (sym is) (subst (λ (n : ℕ). stands n Quiet c'.harts) e own))
    (λ ne.
    let is : stage_by (Some q) h (state_in old h) ≡ rest_stage (state_in old h) = rw (ne_eqb q h ne) refl in
    subst (λ (s : Stage). stands h s c'.harts) (sym is) (keeps.stages h (rest_stage (state_in old h)) (λ e. ne (sym e)) (stands_by_none harts old c rests same h lt)))

-- ---- lists of states
pub shown_of : (harts n : ℕ) (c : HartSeatView) → n ≡ harts → AreStates harts c (states_in harts c) → IsShown n c
shown_of harts n c same are = subst (λ (k : ℕ). IsShown k c) (sym same) (shows_seen harts c (listed (states_in harts c)) are.1)

pub copied_states : (harts : ℕ) (old c : HartSeatView) → AreStates harts old (states_in harts old) → IsShown harts c → ((k : ℕ) → k < harts → state_in c k ≡ state_in old k) → AreStates harts c (states_in harts old)
copied_states harts old c are shown same = (
  are.0,
  (λ k lt. subst (λ (x : HartState). IsIn c k x) (same k lt ∙ seat_determines_states harts old (listed (states_in harts old)) are.1 k lt) (shown k lt)),
)

-- ---- the states so far
module _ (first : ℕ) (states : ℕ → HartState) where
  pub so_far_first : (n k : ℕ) → k ≡ first → so_far first n states k ≡ started
  so_far_first n k e = rw (eq-eqb k first e) refl

  pub so_far_above : (n k : ℕ) → k ≢ first → n ≤ k → so_far first n states k ≡ stopped
  so_far_above n k ne le = rw (ne_eqb k first ne, le-ltb k n le) refl

-- the opening
pub opens : (harts first : ℕ) (old c : HartSeatView) → numbers c.harts ≡ numbers_from 0 harts → Shows harts c (opening_states first)
    → ((h : ℕ) → h < harts → stands h (if eqb h first then Running else Out) c.harts) → IsMade harts first 0 old c
opens harts first old c all shown stood = record {
  rests = record {
    shown = shows_seen harts c (opening_states first) shown;
    each = λ h lt. subst (λ (s : Stage). stands h s c.harts) (stage h ∙ ap rest_stage (sym (seat_determines_states harts c (opening_states first) shown h lt))) (stood h lt);
  };
  numbered = all;
  states = λ k lt. seat_determines_states harts c (opening_states first) shown k lt ∙ dite (ℕ_discrete k first)
      (λ e. let now : opening_states first k ≡ started = rw (eq-eqb k first e) refl in now ∙ sym (so_far_first first (state_in old) 0 k e))
      (λ ne. let now : opening_states first k ≡ stopped = rw (ne_eqb k first ne) refl in now ∙ sym (so_far_above first (state_in old) 0 k ne (omega arith)));
}
  where
    stage : (h : ℕ) → (if eqb h first then Running else Out) ≡ rest_stage (opening_states first h)
    stage h = dite (ℕ_discrete h first) (λ e. rw (eq-eqb h first e) refl) (λ ne. rw (ne_eqb h first ne) refl)

module _ (first : ℕ) (states : ℕ → HartState) where
  pub so_far_below : (n k : ℕ) → k ≢ first → k < n → so_far first n states k ≡ states k
  so_far_below n k ne lt = rw (ne_eqb k first ne, lt-ltb k n lt) refl

  -- one hart more says nothing new of the others
  pub so_far_next : (n k : ℕ) → k ≢ n → so_far first n states k ≡ so_far first (n + 1) states k
  so_far_next n k ne = ⊎_elim
      (λ lt. rw (lt-ltb k n lt, lt-ltb k (n + 1) (omega (arith, lt))) refl)
      (λ le. rw (le-ltb k n le, le-ltb k (n + 1) (omega (arith, le, ne))) refl)
      (cases_lt k n)

-- the first hart is passed over
pub passes_first : (harts first n : ℕ) (old c : HartSeatView) → n ≡ first → IsMade harts first n old c → IsMade harts first (n + 1) old c
passes_first harts first n old c is made = record {
  rests = made.rests;
  numbered = made.numbered;
  states = λ k lt. dite (ℕ_discrete k first)
      (λ e. made.states k lt ∙ (so_far_first first (state_in old) n k e ∙ sym (so_far_first first (state_in old) (n + 1) k e)))
      (λ ne. made.states k lt ∙ so_far_next first (state_in old) n k (λ e. ne (e ∙ is)));
}

-- a hart that is not the first comes to its state
pub made_next : (harts harts' first n : ℕ) (x : HartState) (old c c' : HartSeatView) → harts' ≡ harts → n ≢ first → x ≡ state_in old n → IsMade harts first n old c → Becomes harts' n x c c' → IsMade harts first (n + 1) old c'
made_next harts harts' first n x old c c' same other is made becomes = record {
  rests = subst (λ (m : ℕ). IsAtRest m c') same becomes.rests;
  numbered = becomes.numbered ∙ made.numbered;
  states = λ k lt. becomes.states k (subst (λ (m : ℕ). k < m) (sym same) lt) ∙ dite (ℕ_discrete k n)
      (λ e.
      let below : k < n + 1 = omega (arith, e) in
      let miss : k ≢ first = λ f. other (sym e ∙ f) in
      here n (λ _. x) (state_in c) k e ∙ (is ∙ (ap (state_in old) (sym e) ∙ sym (so_far_below first (state_in old) (n + 1) k miss below))))
      (λ ne. elsewhere n (λ _. x) (state_in c) k ne ∙ (made.states k lt ∙ so_far_next first (state_in old) n k ne));
}

-- the first hart comes to its state last
pub made_last : (harts harts' first n : ℕ) (x : HartState) (old c c' : HartSeatView) → harts' ≡ harts → harts ≤ n → x ≡ state_in old first → IsMade harts first n old c → Becomes harts' first x c c' → (k : ℕ) → k < harts → state_in c' k ≡ state_in old k
made_last harts harts' first n x old c c' same all is made becomes k lt = becomes.states k (subst (λ (m : ℕ). k < m) (sym same) lt) ∙ dite (ℕ_discrete k first)
    (λ e. here first (λ _. x) (state_in c) k e ∙ (is ∙ ap (state_in old) (sym e)))
    (λ ne. elsewhere first (λ _. x) (state_in c) k ne ∙ (made.states k lt ∙ so_far_below first (state_in old) n k ne (omega (arith, lt, all))))

-- the same, of other names
pub made_at : (harts harts' first n n' : ℕ) (old old' c : HartSeatView) → harts ≡ harts' → n ≡ n' → old ≡ old' → IsMade harts first n old c → IsMade harts' first n' old' c
made_at harts harts' first n n' old old' c same at is made =
    subst (λ (m : ℕ). IsMade m first n' old' c) same (subst (λ (k : ℕ). IsMade harts first k old' c) at (subst (λ (d : HartSeatView). IsMade harts first n d c) is made))
