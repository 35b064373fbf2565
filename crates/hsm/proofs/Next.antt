-- What a step of one hart owes, so that the rule holds of the board after it.
use Rattle.std.proofs.Common.{◌≡◌, ◌≢◌, ◌⊎◌, ℕ, suc, ◌+◌, ◌*◌, ◌<◌, ◌≤◌, List, [], ◌∷◌, length, set, refl, sym, ap, ◌∙◌, subst, ⊎_elim, inl, inr, arith, eq-eqb, ne_eqb}
use Rattle.std.specs.Prelude.{slice_index, slice_set}
use mathlib.Core.Option.{some}
use lib.ListN.{get_elem?}
use Rattle.atomic_table.{specs.Table.{State, keeps, stepped}, proofs.Lists.at_set}
use Rattle.hsm.specs.{declared.view.{Stage.Stage, Action.Action}, Words.{HartView, HartSeatView, WordBits, word_bits}}
use Rattle.hsm.specs.declared.view.Stage.TheVariants.{Out, Ready, Addressed, Loaded, Running, Claiming, Half, Stored, Suspended, Quiet}
use Rattle.hsm.specs.Rule.{Grants, claim_of, entry_of, is_pending, in_flight, flights, Fits, Sound, HartInvariant, IsSite, word_of, found_by, left_by, reading, first_word, stands}
use Rattle.tallies.{specs.{Sums.total, Notes.{hart_notes, seat_notes, noted}, Rules.{AreSeated, IsLogged}}, proofs.Totals.total-set}
use Rattle.tallies.proofs.{Noted.Spot, Rules.{under as of_board, under_at, has, both, another, logged_next}}

pub in_flight_same : (t a o : ℕ) → in_flight t (Claiming t a o) ≡ 1
in_flight_same t a o = rw (eq-eqb t t refl) refl

-- where the acting hart stands in its seat
pub record Place (h : ℕ) (st : Stage) (vs : List HartView) : Type 0 where
  pub k : ℕ
  pub actions : List Action
  pub places : List ℕ
  pub q : ℕ
  pub there : get_elem? vs k ≡ some (hart_notes h st actions places)
  pub then_noted : (st' : Stage) (n : ℕ) (x : Action) → noted h st' n x vs ≡ set vs k (hart_notes h st' (x ∷ actions) (n ∷ places))

pub find : (h : ℕ) (st : Stage) (vs : List HartView) → stands h st vs → Place h st vs
find h st [] s = absurd s
find h st (v ∷ vs) s =
    ⊎_elim
    (λ (hit : (v.hart ≡ h) × (v.stage ≡ st)). record {
      k = 0;
      actions = v.actions;
      places = v.places;
      q = 0;
      there = λ i. some (hart_notes (hit.0 i) (hit.1 i) v.actions v.places);
      then_noted = λ st' r x. rw (eq-eqb v.hart h hit.0) (ap (λ (n : ℕ). hart_notes n st' (x ∷ v.actions) (r ∷ v.places) ∷ vs) hit.0);
    })
    (λ (miss : (v.hart ≢ h) × stands h st vs). let p = find h st vs miss.1 in record {
      k = suc p.k;
      actions = p.actions;
      places = p.places;
      q = 0;
      there = p.there;
      then_noted = λ st' r x. rw (ne_eqb v.hart h miss.0) (ap (λ (l : List HartView). v ∷ l) (p.then_noted st' r x));
    })
    s

-- the next action is to have the place q
abbrev pub place : (q h : ℕ) (st : Stage) (vs : List HartView) → stands h st vs → Place h st vs
place q h st vs s = let p = find h st vs s in record { k = p.k; actions = p.actions; places = p.places; q = q; there = p.there; then_noted = p.then_noted }

-- what another hart knows stays so
pub carry : (harts : ℕ) (m m' : WordBits) (g g' : Grants) (h : ℕ) (st : Stage)
    → m'.entered h ≡ m.entered h
    → m'.suspended h ≡ m.suspended h
    → (m.armed h ≡ 1 → (m'.armed h ≡ 1) × (m'.address h ≡ m.address h) × (m'.opaque h ≡ m.opaque h))
    → ((t : ℕ) → t < harts → in_flight t st ≡ 1 → (g'.address t ≡ g.address t) × (g'.opaque t ≡ g.opaque t) × (m'.address t ≡ m.address t) × (m'.opaque t ≡ m.opaque t))
    → (((t : ℕ) → t < harts → t ≢ h → m.claimed t ≡ 0) → (t : ℕ) → t < harts → t ≢ h → m'.claimed t ≡ 0)
    → Fits harts m g h st → Fits harts m' g' h st
carry harts m m' g g' h Out en su ar tg qu f = en ∙ f
carry harts m m' g g' h Ready en su ar tg qu f = ((ar f.0).0, en ∙ f.1)
carry harts m m' g g' h (Addressed a) en su ar tg qu f = ((ar f.0).0, en ∙ f.1, (ar f.0).1 ∙ f.2)
carry harts m m' g g' h (Loaded a o) en su ar tg qu f = ((ar f.0).0, en ∙ f.1, (ar f.0).1 ∙ f.2, (ar f.0).2 ∙ f.3)
carry harts m m' g g' h Running en su ar tg qu f = (en ∙ f.0, su ∙ f.1)
carry harts m m' g g' h (Claiming t a o) en su ar tg qu f =
    let e = tg t f.2 (in_flight_same t a o) in (en ∙ f.0, su ∙ f.1, f.2, (e.0 ∙ f.3.0, e.1 ∙ f.3.1))
carry harts m m' g g' h (Half t a o) en su ar tg qu f =
    let e = tg t f.2 (in_flight_same t a o) in (en ∙ f.0, su ∙ f.1, f.2, (e.0 ∙ f.3.0, e.1 ∙ f.3.1), e.2 ∙ f.4)
carry harts m m' g g' h (Stored t a o) en su ar tg qu f =
    let e = tg t f.2 (in_flight_same t a o) in (en ∙ f.0, su ∙ f.1, f.2, (e.0 ∙ f.3.0, e.1 ∙ f.3.1), e.2 ∙ f.4, e.3 ∙ f.5)
carry harts m m' g g' h Suspended en su ar tg qu f = (en ∙ f.0, su ∙ f.1)
carry harts m m' g g' h Quiet en su ar tg qu f = (en ∙ f.0, su ∙ f.1, qu f.2)

-- as the place of a hart at whatever stage
abbrev pub spot_of : (h : ℕ) (st : Stage) (vs : List HartView) → Place h st vs → Spot h vs
spot_of h st vs p = record { k = p.k; v = hart_notes h st p.actions p.places; own = refl; there = p.there; then_noted = p.then_noted }

module _ (harts : ℕ) (m : WordBits) (g : Grants) (views : List HartSeatView) (seated : AreSeated harts views) (sound : Sound harts m g views) (id : ℕ) (c : HartSeatView) (at : get_elem? views id ≡ some c)
    (h : ℕ) (st : Stage) (p : Place h st c.harts) where
  abbrev pub after : Stage → Action → HartSeatView
  after st' x = seat_notes (set c.harts p.k (hart_notes h st' (x ∷ p.actions) (p.q ∷ p.places)))

  pub mine : Fits harts m g h st
  mine = sound.fits id c p.k (hart_notes h st p.actions p.places) at p.there

  pub under : h < harts
  under = of_board harts views seated id c at h (has harts views seated id c at h (spot_of h st c.harts p))

  -- a sum over all harts of all seats, after the step
  moved : (f : HartView → ℕ) (st' : Stage) (x : Action)
      → total (λ (u : HartSeatView). total f u.harts) (set views id (after st' x)) + f (hart_notes h st p.actions p.places) ≡ total (λ (u : HartSeatView). total f u.harts) views + f (hart_notes h st' (x ∷ p.actions) (p.q ∷ p.places))
  moved f st' x =
      let a = total-set (λ (u : HartSeatView). total f u.harts) views id c (after st' x) at in
      let b = total-set f c.harts p.k (hart_notes h st p.actions p.places) (hart_notes h st' (x ∷ p.actions) (p.q ∷ p.places)) p.there in
      omega arith

  pub next : (m' : WordBits) (g' : Grants) (st' : Stage) (x : Action)
      → ((k : ℕ) → k < harts → (m'.suspended k ≤ m'.entered k) × (m'.entered k ≤ m'.armed k) × (m'.armed k ≤ m'.claimed k) × (m'.claimed k ≤ 1))
      → ((t : ℕ) → t < harts → (in_flight t st' + m'.armed t) + m.claimed t ≡ (in_flight t st + m.armed t) + m'.claimed t)
      → ((t a o : ℕ) → t < harts → claim_of t a o x + is_pending m g t a o ≡ entry_of t a o x + is_pending m' g' t a o)
      → ((t : ℕ) → t < harts → m'.armed t ≡ 1 → m'.entered t ≡ 0 → (m'.address t ≡ g'.address t) × (m'.opaque t ≡ g'.opaque t))
      → Fits harts m' g' h st'
      → ((v : HartView) → v.hart ≢ h → v.hart < harts → ((t : ℕ) → total (flights t) views ≡ in_flight t st → in_flight t v.stage ≡ 0) → Fits harts m g v.hart v.stage → Fits harts m' g' v.hart v.stage)
      → (u : ℕ) × (u < harts) × (m'.claimed u ≡ m'.entered u)
      → Sound harts m' g' (set views id (after st' x))
  next m' g' st' x order flying ledger armed fit others settled = record {
    settled = settled;
    order = order;
    flying = λ t lt.
        let a = sound.flying t lt in let b = moved (λ v. in_flight t v.stage) st' x in let d = flying t lt in omega arith;
    ledger = λ t a o lt.
        let l = sound.ledger t a o lt in
        let p = moved (λ v. total (claim_of t a o) v.actions) st' x in
        let q = moved (λ v. total (entry_of t a o) v.actions) st' x in
        let d = ledger t a o lt in
        omega arith;
    armed = armed;
    fits = λ j u i v there here. ⊎_elim
        (λ (t : (j ≡ id) × (after st' x ≡ u)). ⊎_elim
        (λ (r : (i ≡ p.k) × (hart_notes h st' (x ∷ p.actions) (p.q ∷ p.places) ≡ v)). subst (λ (w : HartView). Fits harts m' g' w.hart w.stage) r.1 fit)
        (λ (r : (i ≢ p.k) × (get_elem? c.harts i ≡ some v)). other id c i v at r.1 (inr (refl, r.0)))
        (at_set c.harts p.k i (hart_notes h st' (x ∷ p.actions) (p.q ∷ p.places)) v (subst (λ (w : HartSeatView). get_elem? w.harts i ≡ some v) (sym t.1) here)))
        (λ (t : (j ≢ id) × (get_elem? views j ≡ some u)). other j u i v t.1 here (inl t.0))
        (at_set views id j (after st' x) u there);
  }
    where
      other : (j : ℕ) (u : HartSeatView) (i : ℕ) (v : HartView) → get_elem? views j ≡ some u → get_elem? u.harts i ≡ some v → (j ≢ id) ⊎ ((j ≡ id) × (i ≢ p.k)) → Fits harts m' g' v.hart v.stage
      other j u i v there here apart =
          let q = spot_of h st c.harts p in
          others v (another harts views seated id c at h q j u i v there here apart) (under_at harts views seated j u i v there here)
          (λ t e. let f = both harts views seated id c at h q (λ w. in_flight t w.stage) j u i v there here apart in omega arith) (sound.fits j u i v there here)

-- What a step of one hart owes, all told.
pub kept_then : (harts started : ℕ) (s : State (Unit {0}) HartSeatView) (kept : HartInvariant harts started s) (id : ℕ) (vs : List HartView) (at : get_elem? s.views id ≡ some (seat_notes vs)) (h : ℕ) (st st' : Stage)
    → (p : Place h st vs) → p.q ≡ length kept.steps.log → (x : Action) (i n : ℕ) (held : List (ℕ × Unit {0})) (g : Grants) → ((k : ℕ) → IsSite (g.address k))
    → i < 1 + 2 * harts → word_of h x ≡ i → found_by x (slice_index s.words i) ≡ slice_index s.words i → left_by h x (slice_index s.words i) ≡ n
    → Sound harts (word_bits (slice_set s.words i n)) g (set s.views id (seat_notes (set vs p.k (hart_notes h st' (x ∷ p.actions) (p.q ∷ p.places)))))
    → HartInvariant harts started (stepped s i n id held (seat_notes (noted h st' p.q x vs)) keeps)
kept_then harts started s kept id vs at h st st' p newest x i n held g sites lt word found left sound =
    let c = seat_notes vs in
    let some_of = has harts s.views kept.steps.seated id c at h (spot_of h st vs p) in
    record {
      steps = subst (λ (q : ℕ). IsLogged reading (first_word started) harts (1 + 2 * harts) (stepped s i n id held (seat_notes (noted h st' q x vs)) keeps)) (sym newest)
          (logged_next reading (first_word started) harts (1 + 2 * harts) s kept.steps id c at h some_of st' x i n held lt word found left);
      grants = g;
      sites = sites;
      sound = subst (λ (l : List HartView). Sound harts (word_bits (slice_set s.words i n)) g (set s.views id (seat_notes l))) (sym (p.then_noted st' p.q x)) sound;
    }
