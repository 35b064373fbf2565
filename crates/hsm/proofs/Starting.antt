-- A start, with the one seat of all harts.
use Rattle.std.proofs.Common.{◌≡◌, ◌≢◌, ℕ, ◌+◌, ◌*◌, ◌-◌, ◌<◌, Bool, true, false, true≢false, if◌then◌else◌, eqb, refl, sym, ap, ◌∙◌, subst, arith, eq-eqb, ne_eqb}
use Rattle.std.specs.Int.{bit_at}
use mathlib.Core.Logic.{dite}
use native.Mathlib.Decide.{ℕ_discrete}
use Rattle.tallies.specs.Notes.{noted, HasNoted}
use Rattle.hsm.specs.{declared.view.{Stage.{Stage, TheVariants.{Running, Claiming, Half, Stored}}, Action.Action}, Words.HartSeatView}
use Rattle.hsm.specs.{declared.view.Action.TheVariants.{Claimed, Wrote, Armed}, Rule.{claim_of, entry_of, did, stands}}
use Rattle.hsm.specs.States.{HartState, stopped, start_pending, awaits, is_outside, IsAt, IsIn, Shows, Tells, change_at, is_stopped, grant}
use Rattle.hsm.{specs.Outcomes.after_claim, proofs.{Stand.stands_after, Alone.{stands_once, shows_as, weight, others, shows_same}}}
use Rattle.hsm.proofs.Stages.{stopped_of, taken_of, grant_taken}

no_claim : (t a o found k b d : ℕ) → bit_at found t ≢ 0 → claim_of k b d (Claimed t a o found) ≡ 0
no_claim t a o found k b d taken =
    dite (ℕ_discrete t k)
    (λ is. rw (eq-eqb t k is) (nil (eqb a b) (eqb o d) (1 - bit_at found k) (let n : bit_at found k ≢ 0 = λ z. taken (ap (bit_at found) is ∙ z) in omega arith)))
    (λ ne. rw (ne_eqb t k ne) refl)
  where
    nil : (p q : Bool) (n : ℕ) → n ≡ 0 → ◌≡◌ {A = ℕ} (if p then (if q then n else 0) else 0) 0
    nil true true n e = e
    nil true false n e = refl
    nil false q n e = refl

pub stays_running : (h t a o found : ℕ) (c c' : HartSeatView) → HasNoted h (after_claim t a o found) (Claimed t a o found) c.harts c'.harts → bit_at found t ≢ 0 → HasNoted h Running (Claimed t a o found) c.harts c'.harts
stays_running h t a o found c c' is taken =
    let e : after_claim t a o found ≡ Running = rw (ne_eqb (bit_at found t) 0 taken) refl in (is.0, is.1 ∙ ap (λ (w : Stage). noted h w is.0 (Claimed t a o found) c.harts) e)

pub claims_it : (h t a o found : ℕ) (c c' : HartSeatView) → HasNoted h (after_claim t a o found) (Claimed t a o found) c.harts c'.harts → bit_at found t ≡ 0 → HasNoted h (Claiming t a o) (Claimed t a o found) c.harts c'.harts
claims_it h t a o found c c' is clear =
    let e : after_claim t a o found ≡ Claiming t a o = rw clear refl in (is.0, is.1 ∙ ap (λ (w : Stage). noted h w is.0 (Claimed t a o found) c.harts) e)

pub start_refused : (harts h t a o found : ℕ) (c c' : HartSeatView) → HasNoted h (after_claim t a o found) (Claimed t a o found) c.harts c'.harts → bit_at found t ≢ 0 → stands h Running c.harts → t < harts → Tells harts c found
    → (states : ℕ → HartState) → Shows harts c states → (false ≡ is_stopped (states t)) × Shows harts c' (change_at t (grant a o) states)
start_refused harts h t a o found c c' is taken stood lt tells states shown =
    let n = taken_of found t (states t) (tells states shown t lt).0 taken in (
      sym n,
      shows_as harts c' states (change_at t (grant a o) states) (λ k. dite (ℕ_discrete k t)
          (λ e. rw (eq-eqb k t e) (ap (λ (j : ℕ). grant a o (states j)) e ∙ (grant_taken a o (states t) n ∙ ap states (sym e))))
          (λ ne. rw (ne_eqb k t ne) refl))
          (shows_same harts h Running Running (Claimed t a o found) c c' (stays_running h t a o found c c' is taken) stood (λ y at. at) (λ k b d. no_claim t a o found k b d taken) (λ k b d. refl) states shown),
    )

pub start_granted : (harts h t a o found : ℕ) (c c1 c2 c3 c4 : HartSeatView)
    → HasNoted h (after_claim t a o found) (Claimed t a o found) c.harts c1.harts
    → HasNoted h (Half t a o) (Wrote (1 + 2 * t) a) c1.harts c2.harts
    → HasNoted h (Stored t a o) (Wrote (2 + 2 * t) o) c2.harts c3.harts
    → HasNoted h Running (Armed t) c3.harts c4.harts
    → bit_at found t ≡ 0 → stands h Running c.harts → t < harts → Tells harts c found
    → (states : ℕ → HartState) → Shows harts c states → (true ≡ is_stopped (states t)) × Shows harts c4 (change_at t (grant a o) states)
start_granted harts h t a o found c c1 c2 c3 c4 is0 is2 is3 is4 clear stood lt tells states shown = (
  sym (ap is_stopped free),
  (λ k below. dite (ℕ_discrete k t)
      (λ e. subst (λ (n : ℕ). IsIn c4 n (change_at t (grant a o) states n)) (sym e) target)
      (λ ne. subst (λ (x : HartState). IsIn c4 k x) (sym (elsewhere k ne)) (other k below ne))),
)
  where
    is1 : HasNoted h (Claiming t a o) (Claimed t a o found) c.harts c1.harts
    is1 = claims_it h t a o found c c1 is0 clear

    s1 : stands h (Claiming t a o) c1.harts
    s1 = stands_after h Running (Claiming t a o) (Claimed t a o found) c c1 is1 stood

    s2 : stands h (Half t a o) c2.harts
    s2 = stands_after h (Claiming t a o) (Half t a o) (Wrote (1 + 2 * t) a) c1 c2 is2 s1

    s3 : stands h (Stored t a o) c3.harts
    s3 = stands_after h (Half t a o) (Stored t a o) (Wrote (2 + 2 * t) o) c2 c3 is3 s2

    s4 : stands h Running c4.harts
    s4 = stands_after h (Stored t a o) Running (Armed t) c3 c4 is4 s3

    moved : (k : ℕ) (sk : Stage) → k ≢ h → stands k sk c.harts → stands k sk c4.harts
    moved k sk ne s =
        others harts h (Stored t a o) Running (Armed t) c3 c4 is4 s3 k sk ne
        (others harts h (Half t a o) (Stored t a o) (Wrote (2 + 2 * t) o) c2 c3 is3 s2 k sk ne
        (others harts h (Claiming t a o) (Half t a o) (Wrote (1 + 2 * t) a) c1 c2 is2 s1 k sk ne
        (others harts h Running (Claiming t a o) (Claimed t a o found) c c1 is1 stood k sk ne s)))

    weighs : (g : Action → ℕ) → did g c4 ≡ g (Armed t) + (g (Wrote (2 + 2 * t) o) + (g (Wrote (1 + 2 * t) a) + (g (Claimed t a o found) + did g c)))
    weighs g =
        let p = weight harts h Running (Claiming t a o) (Claimed t a o found) c c1 is1 stood g in
        let q = weight harts h (Claiming t a o) (Half t a o) (Wrote (1 + 2 * t) a) c1 c2 is2 s1 g in
        let r = weight harts h (Half t a o) (Stored t a o) (Wrote (2 + 2 * t) o) c2 c3 is3 s2 g in
        let s = weight harts h (Stored t a o) Running (Armed t) c3 c4 is4 s3 g in
        omega arith

    free : states t ≡ stopped
    free = stopped_of found t (states t) (tells states shown t lt).0 clear

    elsewhere : (k : ℕ) → k ≢ t → change_at t (grant a o) states k ≡ states k
    elsewhere k ne = rw (ne_eqb k t ne) refl

    now : change_at t (grant a o) states t ≡ start_pending a o
    now = rw (eq-eqb t t refl) (ap (grant a o) free)

    target : IsIn c4 t (change_at t (grant a o) states t)
    target =
        let i = shown t lt in
        let outside : is_outside i.0 ≡ true = subst (λ (x : HartState). IsAt x i.0) free i.2 in
        let apart : t ≢ h = λ e. true≢false (sym outside ∙ ap is_outside (stands_once h i.0 Running c.harts (subst (λ (n : ℕ). stands n i.0 c.harts) e i.1) stood)) in
        subst (λ (x : HartState). IsIn c4 t x) (sym now) (
          i.0,
          moved t i.0 apart i.1,
          outside,
          (λ b d.
              let p = weighs (claim_of t b d) in
              let q = weighs (entry_of t b d) in
              let r : claim_of t b d (Claimed t a o found) ≡ awaits (start_pending a o) b d = rw (eq-eqb t t refl, clear) refl in
              let e = i.3 b d in
              let z = ap (λ (x : HartState). awaits x b d) free in
              omega arith),
        )

    other : (k : ℕ) → k < harts → k ≢ t → IsIn c4 k (states k)
    other k below ne =
        let i = shown k below in
        let sums : (b d : ℕ) → did (claim_of k b d) c4 ≡ did (entry_of k b d) c4 + awaits (states k) b d =
        λ b d.
        let p = weighs (claim_of k b d) in
        let q = weighs (entry_of k b d) in
        let r : claim_of k b d (Claimed t a o found) ≡ 0 = rw (ne_eqb t k (λ e. ne (sym e))) refl in
        let e = i.3 b d in
        omega arith in
        dite (ℕ_discrete k h)
        (λ e.
        let same : i.0 ≡ Running = stands_once h i.0 Running c.harts (subst (λ (n : ℕ). stands n i.0 c.harts) e i.1) stood in
        (Running, subst (λ (n : ℕ). stands n Running c4.harts) (sym e) s4, subst (IsAt (states k)) same i.2, sums))
        (λ apart. (i.0, moved k i.0 apart i.1, i.2, sums))
