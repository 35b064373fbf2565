-- What the view of a seat of all harts tells.
use Rattle.std.proofs.Common.{◌≡◌, ◌≢◌, ◌⊎◌, ⊎_elim, inl, inr, ℕ, ◌+◌, ◌-◌, ◌*◌, ◌<◌, ◌≤◌, Bool, true, false, if◌then◌else◌, eqb, [], refl, sym, ap, ◌∙◌, subst, arith, eq-eqb, ne_eqb}
use Rattle.std.specs.{Prelude.slice_index, Int.bit_at}
use mathlib.Core.Logic.{dite}
use mathlib.Core.Option.{some, some-injective}
use native.Mathlib.Decide.{ℕ_discrete}
use lib.ListN.{get_elem?}
use Rattle.atomic_table.specs.Table.{State}
use Rattle.tallies.{specs.Sums.total, proofs.{Totals.{total_none, total_alone, two_at_most_total, at_most_total}, Noted.is_of_same}}
use Rattle.tallies.{proofs.Rules.{under_at, others_empty}, specs.Notes.{hart_notes, is_of, seats}}
use Rattle.hsm.{specs.{Words.{WordBits, word_bits, HartView, HartSeatView}, declared.view.Stage.Stage}, proofs.Next.{place, mine}}
use Rattle.hsm.specs.declared.view.Stage.TheVariants.{Out, Ready, Addressed, Loaded, Running, Claiming, Half, Stored, Suspended, Quiet}
use Rattle.hsm.specs.Rule.{IsSite, Grants, claim_of, entry_of, did, is_pending, in_flight, flights, Fits, HartInvariant, stands}
use Rattle.hsm.specs.States.{HartState, stopped, start_pending, started, suspended, awaits, Says, is_outside, is_running, is_suspended, IsAt, IsIn, IsBetweenCalls, Shows, Tells}

pub unpended : (p q : Bool) (n : ℕ) → n ≡ 0 → ◌≡◌ {A = ℕ} (if p then (if q then n else 0) else 0) 0
unpended true true n e = e
unpended true false n e = refl
unpended false q n e = refl

pended : (x y a o n : ℕ) → ◌≡◌ {A = ℕ} (if eqb x a then (if eqb y o then n else 0) else 0) 1 → (a ≡ x) × (o ≡ y) × (n ≡ 1)
pended x y a o n e =
    dite (ℕ_discrete x a)
    (λ p. dite (ℕ_discrete y o)
    (λ q. (sym p, sym q, (let z : ◌≡◌ {A = ℕ} (if eqb x a then (if eqb y o then n else 0) else 0) n = rw (eq-eqb x a p, eq-eqb y o q) refl in omega arith)))
    (λ q. let z : ◌≡◌ {A = ℕ} (if eqb x a then (if eqb y o then n else 0) else 0) 0 = rw (eq-eqb x a p, ne_eqb y o q) refl in absurd (omega arith)))
    (λ p. let z : ◌≡◌ {A = ℕ} (if eqb x a then (if eqb y o then n else 0) else 0) 0 = rw (ne_eqb x a p) refl in absurd (omega arith))

awaits_same : (a o : ℕ) → awaits (start_pending a o) a o ≡ 1
awaits_same a o = rw (eq-eqb a a refl, eq-eqb o o refl) refl

-- ---- the stage of a hart, and its bits
module _ (harts : ℕ) (m : WordBits) (g : Grants) (h : ℕ) where
  outside_bit : (st : Stage) → is_outside st ≡ true → Fits harts m g h st → m.entered h ≡ 0
  outside_bit Out is f = f
  outside_bit Ready is f = f.1
  outside_bit (Addressed a) is f = f.1
  outside_bit (Loaded a o) is f = f.1
  outside_bit st is f = absurd (cc)

  running_bits : (st : Stage) → is_running st ≡ true → Fits harts m g h st → (m.entered h ≡ 1) × (m.suspended h ≡ 0)
  running_bits Running is f = (f.0, f.1)
  running_bits Quiet is f = (f.0, f.1)
  running_bits st is f = absurd (cc)

  suspended_bits : (st : Stage) → is_suspended st ≡ true → Fits harts m g h st → (m.entered h ≡ 1) × (m.suspended h ≡ 1)
  suspended_bits Suspended is f = (f.0, f.1)
  suspended_bits st is f = absurd (cc)

-- a hart in some state has no start in flight
no_flight : (x : HartState) (st : Stage) (t : ℕ) → IsAt x st → in_flight t st ≡ 0
no_flight x Out t is = refl
no_flight x Ready t is = refl
no_flight x (Addressed a) t is = refl
no_flight x (Loaded a o) t is = refl
no_flight x Running t is = refl
no_flight x Suspended t is = refl
no_flight x Quiet t is = refl
no_flight stopped (Claiming u a o) t is = absurd (cc)
no_flight (start_pending b d) (Claiming u a o) t is = absurd (cc)
no_flight started (Claiming u a o) t is = absurd (cc)
no_flight suspended (Claiming u a o) t is = absurd (cc)
no_flight stopped (Half u a o) t is = absurd (cc)
no_flight (start_pending b d) (Half u a o) t is = absurd (cc)
no_flight started (Half u a o) t is = absurd (cc)
no_flight suspended (Half u a o) t is = absurd (cc)
no_flight stopped (Stored u a o) t is = absurd (cc)
no_flight (start_pending b d) (Stored u a o) t is = absurd (cc)
no_flight started (Stored u a o) t is = absurd (cc)
no_flight suspended (Stored u a o) t is = absurd (cc)

-- a hart that stands somewhere in a seat is in it
sits : (h : ℕ) (st : Stage) (c : HartSeatView) → stands h st c.harts → 1 ≤ seats h c
sits h st c stood =
    let p = place 0 h st c.harts stood in
    let b = at_most_total (is_of h) c.harts p.k (hart_notes h st p.actions p.places) p.there in
    let o = is_of_same h (hart_notes h st p.actions p.places) refl in
    omega arith

-- with a seat of all harts the others have none, so its actions alone are in the ledger
module _ (harts boot : ℕ) (s : State (Unit {0}) HartSeatView) (kept : HartInvariant harts boot s) (id : ℕ) (c : HartSeatView) (at : get_elem? s.views id ≡ some c) (whole : (h : ℕ) → h < harts → 1 ≤ seats h c) where
  none_others : (j : ℕ) (u : HartSeatView) → j ≢ id → get_elem? s.views j ≡ some u → u.harts ≡ []
  none_others = others_empty harts s.views kept.steps.seated id c at whole

  pub here : (t a o : ℕ) → t < harts → did (claim_of t a o) c ≡ did (entry_of t a o) c + is_pending (word_bits s.words) kept.grants t a o
  here t a o lt =
      let l = kept.sound.ledger t a o lt in
      let p = total_alone (did (claim_of t a o)) s.views id c at (λ j u ne there. ap (total (λ (v : HartView). total (claim_of t a o) v.actions)) (none_others j u ne there)) in
      let q = total_alone (did (entry_of t a o)) s.views id c at (λ j u ne there. ap (total (λ (v : HartView). total (entry_of t a o) v.actions)) (none_others j u ne there)) in
      omega arith

module _ (harts boot : ℕ) (s : State (Unit {0}) HartSeatView) (kept : HartInvariant harts boot s) (id : ℕ) (c : HartSeatView) (at : get_elem? s.views id ≡ some c) (table : ℕ → HartState) (shown : Shows harts c table) where
  whole : (h : ℕ) → h < harts → 1 ≤ seats h c
  whole h lt = let i = shown h lt in sits h i.0 c i.1

  -- what the state awaits is what the words have pending
  pub owes_as : (t a o : ℕ) → t < harts → awaits (table t) a o ≡ is_pending (word_bits s.words) kept.grants t a o
  owes_as t a o lt = let l = here harts boot s kept id c at whole t a o lt in let e = (shown t lt).3 a o in omega arith

  -- no start is in flight
  still : (t : ℕ) → t < harts → flights t c ≡ 0
  still t lt = total_none (λ (v : HartView). in_flight t v.stage) c.harts (λ j v there.
      let under : v.hart < harts = under_at harts s.views kept.steps.seated id c j v at there in
      let i = shown v.hart under in
      let p = place 0 v.hart i.0 c.harts i.1 in
      dite (ℕ_discrete j p.k)
      (λ same. let e : v ≡ hart_notes v.hart i.0 p.actions p.places = some-injective v (hart_notes v.hart i.0 p.actions p.places) (sym there ∙ (ap (get_elem? c.harts) same ∙ p.there)) in
      ap (λ (w : HartView). in_flight t w.stage) e ∙ no_flight (table v.hart) i.0 t i.2)
      (λ ne.
      let two = two_at_most_total (is_of v.hart) c.harts p.k j (hart_notes v.hart i.0 p.actions p.places) v ne p.there there in
      let o = is_of_same v.hart (hart_notes v.hart i.0 p.actions p.places) refl in
      let w = is_of_same v.hart v refl in
      let a = at_most_total (seats v.hart) s.views id c at in
      let one = kept.steps.seated.once v.hart under in
      absurd (omega arith)))

  armed_is : (t : ℕ) → t < harts → bit_at (slice_index s.words 0) (8 + t) ≡ bit_at (slice_index s.words 0) t
  armed_is t lt =
      let f = kept.sound.flying t lt in
      let a = total_alone (flights t) s.views id c at (λ j u ne there. ap (total (λ (v : HartView). in_flight t v.stage)) (none_others harts boot s kept id c at whole j u ne there)) in
      let z = still t lt in
      omega arith

  -- the argument words of a hart that is START_PENDING
  pub arguments : (t a o : ℕ) → t < harts → table t ≡ start_pending a o → (slice_index s.words (1 + 2 * t) ≡ a) × (slice_index s.words (2 + 2 * t) ≡ o) × IsSite a
  arguments t a o lt is =
      let m = word_bits s.words in
      let g = kept.grants in
      let owes : is_pending m g t a o ≡ 1 = sym (owes_as t a o lt) ∙ (ap (λ (y : HartState). awaits y a o) is ∙ awaits_same a o) in
      let p = pended (g.address t) (g.opaque t) a o (m.claimed t - m.entered t) owes in
      let one = p.2 in
      let order = kept.sound.order t lt in
      let full : m.armed t ≡ m.claimed t = armed_is t lt in
      let words = kept.sound.armed t lt (omega arith) (omega arith) in
      (words.0 ∙ sym p.0, words.1 ∙ sym p.1, subst IsSite (sym p.0) (kept.sites t))

  says : (t : ℕ) → t < harts → (x : HartState) → table t ≡ x → Says (slice_index s.words 0) t x
  says t lt x is =
      let i = shown t lt in
      let p = place 0 t i.0 c.harts i.1 in
      let fit = mine harts (word_bits s.words) kept.grants s.views kept.steps.seated kept.sound id c at t i.0 p in
      let order = kept.sound.order t lt in
      let stage : IsAt x i.0 = subst (λ (y : HartState). IsAt y i.0) is i.2 in
      let owes : (a o : ℕ) → awaits x a o ≡ is_pending (word_bits s.words) kept.grants t a o = λ a o. ap (λ (y : HartState). awaits y a o) (sym is) ∙ owes_as t a o lt in
      by_state x i.0 fit stage owes
    where
      by_state : (x : HartState) (st : Stage) → Fits harts (word_bits s.words) kept.grants t st → IsAt x st → ((a o : ℕ) → awaits x a o ≡ is_pending (word_bits s.words) kept.grants t a o) → Says (slice_index s.words 0) t x
      by_state stopped st fit stage owes =
          let out = outside_bit harts (word_bits s.words) kept.grants t st stage fit in
          let order = kept.sound.order t lt in
          let g = kept.grants in
          let e = owes (g.address t) (g.opaque t) in
          let n : ◌≡◌ {A = ℕ} (if eqb (g.address t) (g.address t) then (if eqb (g.opaque t) (g.opaque t) then bit_at (slice_index s.words 0) t - bit_at (slice_index s.words 0) (16 + t) else 0) else 0) (bit_at (slice_index s.words 0) t - bit_at (slice_index s.words 0) (16 + t)) = rw (eq-eqb (g.address t) (g.address t) refl, eq-eqb (g.opaque t) (g.opaque t) refl) refl in
          omega arith
      by_state (start_pending a o) st fit stage owes =
          let out = outside_bit harts (word_bits s.words) kept.grants t st stage fit in
          let order = kept.sound.order t lt in
          let e = awaits_same a o in
          let p = pended (kept.grants.address t) (kept.grants.opaque t) a o (bit_at (slice_index s.words 0) t - bit_at (slice_index s.words 0) (16 + t)) (sym (owes a o) ∙ e) in
          let n = p.2 in
          (omega arith, out)
      by_state started st fit stage owes =
          let b = running_bits harts (word_bits s.words) kept.grants t st stage fit in
          let order = kept.sound.order t lt in
          (omega arith, b.0, b.1)
      by_state suspended st fit stage owes =
          let b = suspended_bits harts (word_bits s.words) kept.grants t st stage fit in
          let order = kept.sound.order t lt in
          (omega arith, b.0, b.1)

-- the first word says the states that the view of all harts shows
pub tells : (harts boot : ℕ) (s : State (Unit {0}) HartSeatView) → HartInvariant harts boot s → (id : ℕ) (c : HartSeatView) → get_elem? s.views id ≡ some c → Tells harts c (slice_index s.words 0)
tells harts boot s kept id c at table shown h lt =
    (says harts boot s kept id c at table shown h lt (table h) refl, armed_is harts boot s kept id c at table shown h lt)

-- a start that the words have pending with these is the state that the view of all harts shows
pub open_start : (harts boot : ℕ) (s : State (Unit {0}) HartSeatView) (kept : HartInvariant harts boot s) (id : ℕ) (c : HartSeatView) → get_elem? s.views id ≡ some c
    → (h a o : ℕ) → h < harts → is_pending (word_bits s.words) kept.grants h a o ≡ 1 → (table : ℕ → HartState) → Shows harts c table → table h ≡ start_pending a o
open_start harts boot s kept id c at h a o lt one table shown =
    by_state (table h) (owes_as harts boot s kept id c at table shown h a o lt ∙ one)
  where
    by_state : (x : HartState) → awaits x a o ≡ 1 → x ≡ start_pending a o
    by_state stopped e = absurd (omega arith)
    by_state (start_pending b d) e = let p = pended b d a o 1 e in λ i. start_pending (sym p.0 i) (sym p.1 i)
    by_state started e = absurd (omega arith)
    by_state suspended e = absurd (omega arith)

-- ---- a seat of all harts, each between calls, shows some states
-- the state that the words give a hart
abbrev by_words : WordBits → Grants → ℕ → HartState
by_words m g h = if eqb (m.entered h) 0 then (if eqb (m.claimed h) 0 then stopped else start_pending (g.address h) (g.opaque h)) else (if eqb (m.suspended h) 0 then started else suspended)

module _ (harts boot : ℕ) (s : State (Unit {0}) HartSeatView) (kept : HartInvariant harts boot s) (id : ℕ) (c : HartSeatView) (at : get_elem? s.views id ≡ some c) (between : (h : ℕ) → h < harts → IsBetweenCalls h c.harts) where
  stage_in : (h : ℕ) → h < harts → (st : Stage) × stands h st c.harts × ((is_outside st ≡ true) ⊎ ((is_running st ≡ true) ⊎ (is_suspended st ≡ true)))
  stage_in h lt =
      ⊎_elim
      (λ (a : stands h Out c.harts). (Out, a, inl refl))
      (λ (a : stands h Running c.harts ⊎ (stands h Suspended c.harts ⊎ stands h Quiet c.harts)). ⊎_elim
      (λ (b : stands h Running c.harts). (Running, b, inr (inl refl)))
      (λ (b : stands h Suspended c.harts ⊎ stands h Quiet c.harts). ⊎_elim
      (λ (d : stands h Suspended c.harts). (Suspended, d, inr (inr refl)))
      (λ (d : stands h Quiet c.harts). (Quiet, d, inr (inl refl)))
      b)
      a)
      (between h lt)

  pub between_in : (h : ℕ) → h < harts → IsIn c h (by_words (word_bits s.words) kept.grants h)
  between_in h lt =
      let m = word_bits s.words in
      let g = kept.grants in
      let st = (stage_in h lt).0 in
      let stood = (stage_in h lt).1 in
      let fit = mine harts m g s.views kept.steps.seated kept.sound id c at h st (place 0 h st c.harts stood) in
      let order = kept.sound.order h lt in
      let led : (a o : ℕ) → did (claim_of h a o) c ≡ did (entry_of h a o) c + is_pending m g h a o = λ a o. here harts boot s kept id c at (λ k l. let i = stage_in k l in sits k i.0 c i.1) h a o lt in
      let none : m.claimed h ≤ m.entered h → (a o : ℕ) → is_pending m g h a o ≡ 0 = λ le a o. unpended (eqb (g.address h) a) (eqb (g.opaque h) o) (m.claimed h - m.entered h) (omega arith) in
      ⊎_elim
      (λ (out : is_outside st ≡ true).
      let e : m.entered h ≡ 0 = outside_bit harts m g h st out fit in
      dite (ℕ_discrete (m.claimed h) 0)
      (λ z.
      let is : by_words m g h ≡ stopped = rw (eq-eqb (m.entered h) 0 e, eq-eqb (m.claimed h) 0 z) refl in
      subst (λ (x : HartState). IsIn c h x) (sym is) (st, stood, out, (λ a o. let l = led a o in let n = none (omega arith) a o in omega arith)))
      (λ nz.
      let one : m.claimed h - m.entered h ≡ 1 = omega arith in
      let is : by_words m g h ≡ start_pending (g.address h) (g.opaque h) = rw (eq-eqb (m.entered h) 0 e, ne_eqb (m.claimed h) 0 nz) refl in
      subst (λ (x : HartState). IsIn c h x) (sym is)
      (st, stood, out, (λ a o. led a o ∙ ap (λ (n : ℕ). did (entry_of h a o) c + (if eqb (g.address h) a then (if eqb (g.opaque h) o then n else 0) else 0)) one))))
      (λ (entered : (is_running st ≡ true) ⊎ (is_suspended st ≡ true)). ⊎_elim
      (λ (runs : is_running st ≡ true).
      let b = running_bits harts m g h st runs fit in
      let is : by_words m g h ≡ started = rw (b.0, b.1) refl in
      subst (λ (x : HartState). IsIn c h x) (sym is) (st, stood, runs, (λ a o. let l = led a o in let n = none (let p = b.0 in omega arith) a o in omega arith)))
      (λ (suspends : is_suspended st ≡ true).
      let b = suspended_bits harts m g h st suspends fit in
      let is : by_words m g h ≡ suspended = rw (b.0, b.1) refl in
      subst (λ (x : HartState). IsIn c h x) (sym is) (st, stood, suspends, (λ a o. let l = led a o in let n = none (let p = b.0 in omega arith) a o in omega arith)))
      entered)
      (stage_in h lt).2

-- so it shows some states
pub between_shows : (harts boot : ℕ) (s : State (Unit {0}) HartSeatView) → HartInvariant harts boot s → (id : ℕ) (c : HartSeatView) → get_elem? s.views id ≡ some c → ((h : ℕ) → h < harts → IsBetweenCalls h c.harts) → (states : ℕ → HartState) × Shows harts c states
between_shows harts boot s kept id c at settled = (by_words (word_bits s.words) kept.grants, between_in harts boot s kept id c at settled)
