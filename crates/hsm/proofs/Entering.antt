-- An entry, with the one seat of all harts.
use Rattle.std.proofs.Common.{List, ◌≡◌, ◌≢◌, ℕ, ◌+◌, ◌*◌, ◌<◌, Bool, true, false, true≢false, if◌then◌else◌, eqb, Some, None, refl, sym, ap, ◌∙◌, subst, arith, eq-eqb, ne_eqb}
use Rattle.std.specs.Int.{bit_at}
use mathlib.Core.Logic.{dite}
use native.Mathlib.Decide.{ℕ_discrete}
use Rattle.tallies.specs.Notes.{noted, HasNoted}
use Rattle.hsm.specs.{declared.view.Stage.{Stage, TheVariants.{Out, Ready, Addressed, Loaded, Running}}, Words.HartSeatView, Calls.is_ready}
use Rattle.hsm.specs.{declared.view.Action.TheVariants.{Looked, Read, Entered}, Rule.{entry_of, stands}, Outcomes.{after_look, IsOpenStart}}
use Rattle.hsm.specs.States.{HartState, start_pending, started, awaits, IsAt, Shows, Tells, change_at, entry, begin}
use Rattle.hsm.proofs.{Stand.stands_after, Alone.{shows_as, shows_next, shows_same}, Stages.{at_outside, not_pending}}

pub unarmed : (h found : ℕ) → bit_at found (8 + h) ≢ 1 → is_ready h found ≡ false
unarmed h found n = rw (ne_eqb (bit_at found (8 + h)) 1 n) refl

pub armed_ready : (h found : ℕ) → bit_at found (8 + h) ≡ 1 → bit_at found (16 + h) ≡ 0 → is_ready h found ≡ true
armed_ready h found one zero = rw (eq-eqb (bit_at found (8 + h)) 1 one, eq-eqb (bit_at found (16 + h)) 0 zero) refl

pub gone_in : (h found : ℕ) → bit_at found (16 + h) ≢ 0 → is_ready h found ≡ false
gone_in h found n = rw (ne_eqb (bit_at found (16 + h)) 0 n) (nil (eqb (bit_at found (8 + h)) 1))
  where
    nil : (p : Bool) → ◌≡◌ {A = Bool} (if p then false else false) false
    nil true = refl
    nil false = refl

looked_out : (p q : Bool) → ◌≡◌ {A = Bool} (if p then q else false) false → ◌≡◌ {A = Stage} (if p then (if q then Ready else Out) else Out) Out
looked_out true true e = absurd (true≢false e)
looked_out true false e = refl
looked_out false q e = refl

pub stays_out : (h found : ℕ) (c c' : HartSeatView) → HasNoted h (after_look h found) (Looked found) c.harts c'.harts → is_ready h found ≡ false → HasNoted h Out (Looked found) c.harts c'.harts
stays_out h found c c' is z =
    (is.0, is.1 ∙ ap (λ (w : Stage). noted h w is.0 (Looked found) c.harts) (looked_out (eqb (bit_at found (8 + h)) 1) (eqb (bit_at found (16 + h)) 0) z))

pub gets_ready : (h found : ℕ) (c c' : HartSeatView) → HasNoted h (after_look h found) (Looked found) c.harts c'.harts → bit_at found (8 + h) ≡ 1 → bit_at found (16 + h) ≡ 0 → HasNoted h Ready (Looked found) c.harts c'.harts
gets_ready h found c c' is armed out =
    let e : after_look h found ≡ Ready = rw (armed, out) refl in (is.0, is.1 ∙ ap (λ (w : Stage). noted h w is.0 (Looked found) c.harts) e)

pub enters_none : (harts h found : ℕ) (c c' : HartSeatView) → HasNoted h (after_look h found) (Looked found) c.harts c'.harts → is_ready h found ≡ false → stands h Out c.harts → h < harts → Tells harts c found
    → (states : ℕ → HartState) → Shows harts c states → (None ≡ entry (states h)) × Shows harts c' (change_at h begin states)
enters_none harts h found c c' is z stood lt tells states shown =
    let t = tells states shown h lt in
    let n = not_pending found h (states h) t.0 t.1 z in (
      sym n.0,
      shows_as harts c' states (change_at h begin states) (λ k. dite (ℕ_discrete k h)
          (λ e. rw (eq-eqb k h e) (ap (λ (j : ℕ). begin (states j)) e ∙ (n.1 ∙ ap states (sym e))))
          (λ ne. rw (ne_eqb k h ne) refl))
          (shows_same harts h Out Out (Looked found) c c' (stays_out h found c c' is z) stood (λ y at. at) (λ k a o. refl) (λ k a o. refl) states shown),
    )

pub enters_some : (harts h found a o : ℕ) (ps : List ℕ) (c c1 c2 c3 c4 : HartSeatView)
    → HasNoted h Ready (Looked found) c.harts c1.harts
    → HasNoted h (Addressed a) (Read (1 + 2 * h) a) c1.harts c2.harts
    → HasNoted h (Loaded a o) (Read (2 + 2 * h) o) c2.harts c3.harts
    → HasNoted h Running (Entered h a o ps) c3.harts c4.harts
    → stands h Out c.harts → IsOpenStart harts c3 h a o
    → (states : ℕ → HartState) → Shows harts c states → (Some (a, o) ≡ entry (states h)) × Shows harts c4 (change_at h begin states)
enters_some harts h found a o ps c c1 c2 c3 c4 is1 is2 is3 is4 stood opened states shown =
    let s1 = stands_after h Out Ready (Looked found) c c1 is1 stood in
    let s2 = stands_after h Ready (Addressed a) (Read (1 + 2 * h) a) c1 c2 is2 s1 in
    let s3 = stands_after h (Addressed a) (Loaded a o) (Read (2 + 2 * h) o) c2 c3 is3 s2 in
    let w1 = shows_same harts h Out Ready (Looked found) c c1 is1 stood (at_outside Out Ready refl refl refl) (λ k b d. refl) (λ k b d. refl) states shown in
    let w2 = shows_same harts h Ready (Addressed a) (Read (1 + 2 * h) a) c1 c2 is2 s1 (at_outside Ready (Addressed a) refl refl refl) (λ k b d. refl) (λ k b d. refl) states w1 in
    let w3 = shows_same harts h (Addressed a) (Loaded a o) (Read (2 + 2 * h) o) c2 c3 is3 s2 (at_outside (Addressed a) (Loaded a o) refl refl refl) (λ k b d. refl) (λ k b d. refl) states w2 in
    let e = opened states w3 in
    let now : change_at h begin states h ≡ started = rw (eq-eqb h h refl) (ap begin e) in (
      sym (ap entry e),
      shows_next harts h (Loaded a o) Running (Entered h a o ps) c3 c4 is4 s3 states (change_at h begin states) w3 (λ k ne. rw (ne_eqb k h ne) refl)
          (λ at. (
            subst (λ (z : HartState). IsAt z Running) (sym now) refl,
            (λ b d.
                let p = ap (λ (z : HartState). awaits z b d) e in
                let q : entry_of h b d (Entered h a o ps) ≡ awaits (start_pending a o) b d = rw (eq-eqb h h refl) refl in
                let r = ap (λ (z : HartState). awaits z b d) now in
                omega arith),
          ))
          (λ k b d ne. sym (let z : entry_of k b d (Entered h a o ps) ≡ 0 = rw (ne_eqb h k (λ x. ne (sym x))) refl in z)),
    )
