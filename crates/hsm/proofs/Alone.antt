-- What one more action of a seat of all harts leaves of the states that it shows, and one step after another.
use Rattle.std.proofs.Common.{◌≡◌, ◌≢◌, ℕ, ◌+◌, ◌<◌, List, [], ◌∷◌, refl, sym, ap, ◌∙◌, subst, ⊎_elim, arith, eq-eqb, ne_eqb}
use mathlib.Core.Logic.{dite}
use native.Mathlib.Decide.{ℕ_discrete}
use Rattle.tallies.{specs.{Sums.total, Notes.{noted, HasNoted}}, proofs.Noted.numbered}
use Rattle.hsm.specs.{declared.view.{Stage.Stage, Action.Action}, Words.{HartView, HartSeatView}, Rule.{claim_of, entry_of, did, stands}}
use Rattle.hsm.specs.{States.{HartState, awaits, IsAt, IsIn, Shows, change_at}, Calls.KeepsOthers}
use Rattle.hsm.proofs.Stand.{stands_after, stands_other}

-- ---- one more action
did_noted : (g : Action → ℕ) (h : ℕ) (st st' : Stage) (p : ℕ) (x : Action) (vs : List HartView) → stands h st vs
    → total (λ (v : HartView). total g v.actions) (noted h st' p x vs) ≡ g x + total (λ (v : HartView). total g v.actions) vs
did_noted g h st st' p x [] s = absurd s
did_noted g h st st' p x (v ∷ vs) s =
    ⊎_elim
    (λ (hit : (v.hart ≡ h) × (v.stage ≡ st)). rw (eq-eqb v.hart h hit.0) (omega arith))
    (λ (miss : (v.hart ≢ h) × stands h st vs). let more = did_noted g h st st' p x vs miss.1 in rw (ne_eqb v.hart h miss.0) (omega arith))
    s

pub stands_once : (h : ℕ) (st st' : Stage) (vs : List HartView) → stands h st vs → stands h st' vs → st ≡ st'
stands_once h st st' [] s t = absurd s
stands_once h st st' (v ∷ vs) s t =
    ⊎_elim
    (λ (hit : (v.hart ≡ h) × (v.stage ≡ st)). ⊎_elim
    (λ (too : (v.hart ≡ h) × (v.stage ≡ st')). sym hit.1 ∙ too.1)
    (λ (not : (v.hart ≢ h) × stands h st' vs). absurd (not.0 hit.0))
    t)
    (λ (miss : (v.hart ≢ h) × stands h st vs). ⊎_elim
    (λ (too : (v.hart ≡ h) × (v.stage ≡ st')). absurd (miss.0 too.0))
    (λ (not : (v.hart ≢ h) × stands h st' vs). stands_once h st st' vs miss.1 not.1)
    t)
    s

pub shows_as : (harts : ℕ) (c : HartSeatView) (states states' : ℕ → HartState) → ((k : ℕ) → states' k ≡ states k) → Shows harts c states → Shows harts c states'
shows_as harts c states states' same shown k lt = subst (λ (x : HartState). IsIn c k x) (sym (same k)) (shown k lt)

module _ (harts h : ℕ) (st st' : Stage) (x : Action) (c c' : HartSeatView) (is : HasNoted h st' x c.harts c'.harts) (stood : stands h st c.harts) where
  pub weight : (g : Action → ℕ) → did g c' ≡ g x + did g c
  weight g = ap (total (λ (v : HartView). total g v.actions)) is.1 ∙ did_noted g h st st' is.0 x c.harts stood

  pub others : (k : ℕ) (sk : Stage) → k ≢ h → stands k sk c.harts → stands k sk c'.harts
  others k sk ne s = subst (stands k sk) (sym is.1) (stands_other h k st' sk is.0 x c.harts ne s)

  pub keeps : KeepsOthers h c.harts c'.harts
  keeps = record { harts = numbered h st' x c.harts c'.harts is; stages = others }

  pub shows_next : (states states' : ℕ → HartState) → Shows harts c states → ((k : ℕ) → k ≢ h → states' k ≡ states k)
      → (IsAt (states h) st → IsAt (states' h) st' × ((a o : ℕ) → claim_of h a o x + awaits (states h) a o ≡ entry_of h a o x + awaits (states' h) a o))
      → ((k a o : ℕ) → k ≢ h → claim_of k a o x ≡ entry_of k a o x)
      → Shows harts c' states'
  shows_next states states' shown same mine weighs k lt =
      dite (ℕ_discrete k h)
      (λ e. subst (λ (n : ℕ). IsIn c' n (states' n)) (sym e) (here (subst (λ (n : ℕ). n < harts) e lt)))
      (λ ne. subst (λ (y : HartState). IsIn c' k y) (sym (same k ne)) (let i = shown k lt in (
        i.0,
        others k i.0 ne i.1,
        i.2,
        (λ a o. let p = weight (claim_of k a o) in let q = weight (entry_of k a o) in let w = weighs k a o ne in let e = i.3 a o in omega arith),
      )))
    where
      here : h < harts → IsIn c' h (states' h)
      here below =
          let i = shown h below in
          let m = mine (subst (IsAt (states h)) (stands_once h i.0 st c.harts i.1 stood) i.2) in (
            st',
            stands_after h st st' x c c' is stood,
            m.0,
            (λ a o. let p = weight (claim_of h a o) in let q = weight (entry_of h a o) in let w = m.1 a o in let e = i.3 a o in omega arith),
          )

  -- a step that neither claims nor enters, and leaves the states as they are
  pub shows_same : ((y : HartState) → IsAt y st → IsAt y st') → ((k a o : ℕ) → claim_of k a o x ≡ 0) → ((k a o : ℕ) → entry_of k a o x ≡ 0)
      → (states : ℕ → HartState) → Shows harts c states → Shows harts c' states
  shows_same keeps no_claim no_entry states shown =
      shows_next states states shown (λ k ne. refl)
      (λ at. (keeps (states h) at, (λ a o. let p = no_claim h a o in let q = no_entry h a o in omega arith)))
      (λ k a o ne. no_claim k a o ∙ sym (no_entry k a o))

  -- a step that neither claims nor enters, after which the hart is in the state y
  pub shows_turned : (y : HartState) → ((z : HartState) → IsAt z st → (a o : ℕ) → awaits z a o ≡ 0) → IsAt y st' → ((a o : ℕ) → awaits y a o ≡ 0)
      → ((k a o : ℕ) → claim_of k a o x ≡ 0) → ((k a o : ℕ) → entry_of k a o x ≡ 0)
      → (states : ℕ → HartState) → Shows harts c states → Shows harts c' (change_at h (λ _. y) states)
  shows_turned y settled at_y none no_claim no_entry states shown =
      let now : change_at h (λ _. y) states h ≡ y = rw (eq-eqb h h refl) refl in
      shows_next states (change_at h (λ _. y) states) shown (λ k ne. rw (ne_eqb k h ne) refl)
      (λ at. (
        subst (λ (z : HartState). IsAt z st') (sym now) at_y,
        (λ a o. let p = no_claim h a o in let q = no_entry h a o in let r = settled (states h) at a o in let w = ap (λ (z : HartState). awaits z a o) now in let n = none a o in omega arith),
      ))
      (λ k a o ne. no_claim k a o ∙ sym (no_entry k a o))

-- ---- one step after another
-- after some of its steps the hart is at this stage, and the others of its seat stand as they did
pub record Goes (h : ℕ) (st : Stage) (c c' : HartSeatView) : Type 0 where
  pub own : stands h st c'.harts
  pub others : KeepsOthers h c.harts c'.harts

pub goes : (harts h : ℕ) (st st' : Stage) (x : Action) (c c' : HartSeatView) → HasNoted h st' x c.harts c'.harts → stands h st c.harts → Goes h st' c c'
goes harts h st st' x c c' is stood = record { own = stands_after h st st' x c c' is stood; others = keeps harts h st st' x c c' is stood }

pub goes_on : (harts h : ℕ) (st st' : Stage) (x : Action) (c c' c'' : HartSeatView) → Goes h st c c' → HasNoted h st' x c'.harts c''.harts → Goes h st' c c''
goes_on harts h st st' x c c' c'' gone is =
    let next = goes harts h st st' x c' c'' is gone.own in record {
      own = next.own;
      others = record { harts = next.others.harts ∙ gone.others.harts; stages = λ k sk ne s. next.others.stages k sk ne (gone.others.stages k sk ne s) };
    }
