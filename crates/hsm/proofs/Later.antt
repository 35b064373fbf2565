-- The later steps: suspend, wake, quiet and unquiet.
use Rattle.std.proofs.Common.{◌≡◌, ◌≢◌, ℕ, ◌+◌, ◌*◌, ◌%◌, ◌^◌, ◌<◌, ◌≤◌, Bool, true, false, if◌then◌else◌, length, set, refl, sym, ap, ◌∙◌, subst, ⊎_elim, arith, eq-eqb, ne_eqb, w64, IsTrue, ◌↔◌, ◌/◌, div-add-mod'}
use Rattle.std.{specs.{Prelude.{slice_index, slice_set, bit_or, bit_and}, Int.{bit_at, bit_not}}, proofs.lemmas.List.set-get_or}
use Rattle.std.proofs.lemmas.{Nat.Bits.{bit_at-lt, bit_at_cat_low, bit_at-pow_same, bit_at-pow_other, same_from_bits_below}, Bool.eqb-true}
use Rattle.std.proofs.Math.{Nat.mod-lt, Pow.{pow_pos, pow-lt}}
use mathlib.Core.Logic.{dite}
use mathlib.Core.Option.{some, none}
use lib.ListN.{get_elem?}
use native.Mathlib.Decide.{ℕ_discrete}
use Rattle.atomic_table.{specs.Table.{State, step, keeps, stepped, Allows}, proofs.Lists.set_again}
use Rattle.hsm.specs.{declared.view.{Stage.{Stage, TheVariants.{Running, Suspended, Quiet}}, Action.Action}, States.IsStarted}
use Rattle.hsm.{specs.{declared.{view.{Action.{TheVariants.{Suspended as DidSuspend, Woke, Quieted, Unquieted}}}}}, proofs.Steps.turns}
use Rattle.hsm.{specs.Words.{HartSeatView, WordBits, word_bits}, proofs.{Next.{place, mine, under}, Allowed.{IsNoted, notes, loads}}}
use Rattle.hsm.specs.Rule.{IsSite, Grants, claim_of, entry_of, in_flight, Fits, HartInvariant, first_word, word_of, found_by, left_by, reading, stands}
use Rattle.hsm.specs.Outcomes.{Suspends, Wakes, is_alone, after_quiet, Quiets, Unquiets, Sees, Peeks, PeeksAddress, PeeksOpaque}
use Rattle.hsm.proofs.Whole.{tells, arguments, between_shows}
use Rattle.hsm.proofs.Words.{mask, Any, But, leaves_bits, set_here, set_else, clear_here, clear_else}
use Rattle.tallies.{proofs.Rules.has_log, specs.Notes.SeatState}

-- a number whose low bits are that of one hart alone
low_bit : (harts found t : ℕ) → t < harts → bit_at found t ≡ bit_at (found % 2 ^ harts) t
low_bit harts found t lt =
    ap (λ (n : ℕ). bit_at n t) (sym (div-add-mod' found (2 ^ harts))) ∙ bit_at_cat_low (found / 2 ^ harts) harts (found % 2 ^ harts) t lt

pub alone_bits : (harts h found : ℕ) → found % 2 ^ harts ≡ 2 ^ h → (t : ℕ) → t < harts → t ≢ h → bit_at found t ≡ 0
alone_bits harts h found is t lt ne = low_bit harts found t lt ∙ (ap (λ (n : ℕ). bit_at n t) is ∙ bit_at-pow_other h t ne)

-- a hart that is quiet already finds itself alone
still_alone : (harts boot id : ℕ) (me : SeatState HartSeatView) (h : ℕ) → stands h Quiet me.0.harts → (s : State (Unit {0}) HartSeatView) → (kept : HartInvariant harts boot s) → get_elem? s.views id ≡ some me.0
    → (t : ℕ) → t < harts → t ≢ h → bit_at (slice_index s.words 0) t ≡ 0
still_alone harts boot id me h stood s kept at = (mine harts (word_bits s.words) kept.grants s.views kept.steps.seated kept.sound id me.0 at h Quiet (place 0 h Quiet me.0.harts stood)).2

module _ (harts boot slots id : ℕ) (me : SeatState HartSeatView) (h : ℕ) (small : harts ≤ 8) where
  -- the suspended bit of the hart changes
  turned : (st st' : Stage) (x : Action) (n : ℕ) (stood : stands h st me.0.harts) (s : State (Unit {0}) HartSeatView) (kept : HartInvariant harts boot s) → get_elem? s.views id ≡ some me.0
      → word_of h x ≡ 0 → found_by x (slice_index s.words 0) ≡ slice_index s.words 0 → left_by h x (slice_index s.words 0) ≡ n
      → ((t : ℕ) → in_flight t st' ≡ in_flight t st) → ((t a o : ℕ) → claim_of t a o x ≡ entry_of t a o x) → (Fits harts (word_bits s.words) kept.grants h st → (word_bits s.words).entered h ≡ 1)
      → (Fits harts (word_bits s.words) kept.grants h st → (word_bits (slice_set s.words 0 n)).entered h ≡ (word_bits s.words).entered h → Fits harts (word_bits (slice_set s.words 0 n)) kept.grants h st')
      → ((i : ℕ) → i < 64 → i ≢ 24 + h → bit_at (slice_index (slice_set s.words 0 n) 0) i ≡ bit_at (slice_index s.words 0) i)
      → IsNoted harts boot id me h s 0 n st' x
  turned st st' x n stood s kept at word found wrote flies weighs runs fits same =
      let m = word_bits s.words in
      let p = place (length kept.steps.log) h st me.0.harts stood in
      let f = mine harts m kept.grants s.views kept.steps.seated kept.sound id me.0 at h st p in
      let un = under harts m kept.grants s.views kept.steps.seated kept.sound id me.0 at h st p in
      let short : 0 < length s.words = let e = kept.steps.wide in omega arith in
      let few = bit_at-lt (slice_index (slice_set s.words 0 n) 0) (24 + h) in
      let left = leaves_bits harts s.words n Any Any Any (But h) (But (24 + h)) short small same (λ k lt z e. omega arith) (λ k lt z e. omega arith) (λ k lt z e. omega arith) (λ k lt ne e. ne (omega arith)) in
      notes harts boot id me h st st' x 0 n stood s kept at kept.grants kept.sites (omega arith) word found wrote
      (turns harts m kept.grants s.views kept.steps.seated kept.sound id me.0 at h (word_bits (slice_set s.words 0 n)) st st' x p flies weighs (runs f) (omega arith) (fits f (left.entered h un tt)) left)

  pub suspends_as : h < harts → stands h Running me.0.harts → Allows (HartInvariant harts boot) slots id me 0 (λ n. bit_or n (mask (24 + h))) (Suspends h (step slots 0 (mask (24 + h)) 0 none) me)
  suspends_as hl stood s kept _ at _ =
      let ws = s.words in
      let n = bit_or (slice_index ws 0) (mask (24 + h)) in
      let short : 0 < length ws = let e = kept.steps.wide in omega arith in
      let here = set_here ws short (24 + h) (omega arith) in
      turned Running Suspended (DidSuspend (slice_index ws 0)) n stood s kept at refl refl refl (λ t. refl) (λ t a o. refl) (λ f. f.0) (λ f e. (e ∙ f.0, here)) (λ i lt ne. set_else ws short (24 + h) (omega arith) i ne)

  pub wakes_as : h < harts → stands h Suspended me.0.harts → Allows (HartInvariant harts boot) slots id me 0 (λ n. bit_and n (bit_not w64 (mask (24 + h)))) (Wakes h (step slots 0 (bit_not w64 (mask (24 + h))) 0 none) me)
  wakes_as hl stood s kept _ at _ =
      let ws = s.words in
      let n = bit_and (slice_index ws 0) (bit_not w64 (mask (24 + h))) in
      let short : 0 < length ws = let e = kept.steps.wide in omega arith in
      let here = clear_here ws short (24 + h) (omega arith) in
      turned Suspended Running (Woke (slice_index ws 0)) n stood s kept at refl refl refl (λ t. refl) (λ t a o. refl) (λ f. f.0) (λ f e. (e ∙ f.0, here)) (λ i lt ne. clear_else ws short (24 + h) (omega arith) i lt ne)

  quiets_from : (st : Stage) → ((t : ℕ) → in_flight t st ≡ 0) → stands h st me.0.harts → ((m : WordBits) (g : Grants) → Fits harts m g h st → (m.entered h ≡ 1) × (m.suspended h ≡ 0))
      → (s : State (Unit {0}) HartSeatView) → (kept : HartInvariant harts boot s) → (at : get_elem? s.views id ≡ some me.0)
      → IsNoted harts boot id me h s 0 (slice_index s.words 0) (after_quiet harts h (slice_index s.words 0)) (Quieted (slice_index s.words 0))
      × (IsTrue (is_alone harts h (slice_index s.words 0)) ↔ ((t : ℕ) → t < harts → t ≢ h → bit_at (slice_index s.words 0) t ≡ 0))
  quiets_from st none_flies stood runs s kept at =
      let found = slice_index s.words 0 in
      let p = place (length kept.steps.log) h st me.0.harts stood in
      let f = runs (word_bits s.words) kept.grants (mine harts (word_bits s.words) kept.grants s.views kept.steps.seated kept.sound id me.0 at h st p) in
      let un = under harts (word_bits s.words) kept.grants s.views kept.steps.seated kept.sound id me.0 at h st p in
      let d = kept.sound.order h un in (
        loads harts boot slots id me h small st (after_quiet harts h found) (Quieted found) 0 (omega arith) stood (λ t. flies t found ∙ sym (none_flies t)) (λ t a o. refl) s kept at refl refl refl (fit s kept f),
        (
          (λ is. alone_bits harts h found (eqb-true (found % 2 ^ harts) (2 ^ h) is)),
          (λ none_else. eq-eqb (found % 2 ^ harts) (2 ^ h)
              (same_from_bits_below harts (found % 2 ^ harts) (2 ^ h) (low_lt found) (pow_lt un) (λ t lt. dite (ℕ_discrete t h)
              (λ is. sym (low_bit harts found t lt) ∙ (ap (bit_at found) is ∙ (own d f.0 ∙ (sym (bit_at-pow_same h) ∙ ap (bit_at (2 ^ h)) (sym is)))))
              (λ ne. sym (low_bit harts found t lt) ∙ (none_else t lt ne ∙ sym (bit_at-pow_other h t ne)))))),
        ),
      )
    where
      own : {p q r x : ℕ} → (p ≤ q) × (q ≤ r) × (r ≤ x) × (x ≤ 1) → q ≡ 1 → x ≡ 1
      own d e = omega arith

      low_lt : (found : ℕ) → found % 2 ^ harts < 2 ^ harts
      low_lt found = mod-lt found (pow_pos harts)

      pow_lt : h < harts → 2 ^ h < 2 ^ harts
      pow_lt lt = pow-lt lt

      flies : (t found : ℕ) → in_flight t (after_quiet harts h found) ≡ 0
      flies t found = go (is_alone harts h found)
        where
          go : (q : Bool) → in_flight t (if q then Quiet else Running) ≡ 0
          go true = refl
          go false = refl

      fit : (s : State (Unit {0}) HartSeatView) (kept : HartInvariant harts boot s) → ((word_bits s.words).entered h ≡ 1) × ((word_bits s.words).suspended h ≡ 0) → Fits harts (word_bits s.words) kept.grants h (after_quiet harts h (slice_index s.words 0))
      fit s kept f =
          let found = slice_index s.words 0 in
          dite (ℕ_discrete (found % 2 ^ harts) (2 ^ h))
          (λ is. let st : after_quiet harts h found ≡ Quiet = rw is (rw (eq-eqb (2 ^ h) (2 ^ h) refl) refl) in subst (λ (z : Stage). Fits harts (word_bits s.words) kept.grants h z) (sym st) (f.0, f.1, alone_bits harts h found is))
          (λ ne. let st : after_quiet harts h found ≡ Running = rw (ne_eqb (found % 2 ^ harts) (2 ^ h) ne) refl in subst (λ (z : Stage). Fits harts (word_bits s.words) kept.grants h z) (sym st) f)

  pub quiets_as : IsStarted h me.0.harts → Allows (HartInvariant harts boot) slots id me 0 (λ n. n) (Quiets harts h (step slots 0 0 0 none) me)
  quiets_as stood s kept _ at _ =
      let found = slice_index s.words 0 in
      let r = ⊎_elim
      (λ (runs : stands h Running me.0.harts). quiets_from Running (λ t. refl) runs (λ m g f. (f.0, f.1)) s kept at)
      (λ (rests : stands h Quiet me.0.harts). quiets_from Quiet (λ t. refl) rests (λ m g f. (f.0, f.1)) s kept at)
      stood in
      let n = r.0 in
      (n.0, n.1, n.2, n.3, (n.4, r.1, (λ rests. r.1.1 (still_alone harts boot id me h rests s kept at)), tells harts boot s kept id me.0 at))

  pub unquiets_as : stands h Quiet me.0.harts → Allows (HartInvariant harts boot) slots id me 0 (λ n. n) (Unquiets h (step slots 0 0 0 none) me)
  unquiets_as stood s kept _ at _ =
      let found = slice_index s.words 0 in
      let p = place (length kept.steps.log) h Quiet me.0.harts stood in
      let f = mine harts (word_bits s.words) kept.grants s.views kept.steps.seated kept.sound id me.0 at h Quiet p in
      loads harts boot slots id me h small Quiet Running (Unquieted found) 0 (omega arith) stood (λ t. refl) (λ t a o. refl) s kept at refl refl refl (f.0, f.1)

-- ---- looks that are not noted
-- a load of the word i leaves the rule, and the seat as it was
unnoted : (harts boot id i : ℕ) (me : SeatState HartSeatView) (s : State (Unit {0}) HartSeatView) → HartInvariant harts boot s → get_elem? s.views id ≡ some me.0
    → HartInvariant harts boot (stepped s i (slice_index s.words i) id me.1 me.0 keeps)
unnoted harts boot id i me s kept at =
    let words : set s.words i (slice_index s.words i) ≡ s.words = set-get_or s.words i 0 in
    let views : set s.views id me.0 ≡ s.views = set_again s.views id me.0 at in
    let same : ◌≡◌ {A = State (Unit {0}) HartSeatView} (stepped s i (slice_index s.words i) id me.1 me.0 keeps) s = λ j. record { words = words j; homes = s.homes; views = views j } in
    subst (HartInvariant harts boot) (sym same) kept

module _ (harts boot slots id : ℕ) (me : SeatState HartSeatView) where
  pub sees_as : Allows (HartInvariant harts boot) slots id me 0 (λ n. n) (Sees harts boot (step slots 0 0 0 none) me)
  sees_as s kept _ at _ = (
    me.0,
    keeps,
    tt,
    unnoted harts boot id 0 me s kept at,
    (
      refl,
      refl,
      between_shows harts boot s kept id me.0 at,
      has_log reading (first_word boot) harts (1 + 2 * harts) s kept.steps id me.0 at,
    ),
  )

  pub peeks_as : Allows (HartInvariant harts boot) slots id me 0 (λ n. n) (Peeks harts (step slots 0 0 0 none) me)
  peeks_as s kept _ at _ =
      (me.0, keeps, tt, unnoted harts boot id 0 me s kept at, ((refl, refl), tells harts boot s kept id me.0 at, (λ h t stood. still_alone harts boot id me h stood s kept at t), kept.sound.settled))

  pub peeks_address_as : (h : ℕ) → h < harts → Allows (HartInvariant harts boot) slots id me (1 + 2 * h) (λ n. n) (PeeksAddress harts h (step slots (1 + 2 * h) 0 0 none) me)
  peeks_address_as h lt s kept _ at _ = (
    me.0,
    keeps,
    tt,
    unnoted harts boot id (1 + 2 * h) me s kept at,
    (
      (refl, refl),
      (λ states a o shown is. let w = arguments harts boot s kept id me.0 at states shown h a o lt is in (w.0, subst IsSite (sym w.0) w.2)),
    ),
  )

  pub peeks_opaque_as : (h : ℕ) → h < harts → Allows (HartInvariant harts boot) slots id me (2 + 2 * h) (λ n. n) (PeeksOpaque harts h (step slots (2 + 2 * h) 0 0 none) me)
  peeks_opaque_as h lt s kept _ at _ = (
    me.0,
    keeps,
    tt,
    unnoted harts boot id (2 + 2 * h) me s kept at,
    (
      (refl, refl),
      (λ states a o shown is. (arguments harts boot s kept id me.0 at states shown h a o lt is).1),
    ),
  )
