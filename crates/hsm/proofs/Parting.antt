-- The table at the start, and seats that are parted and joined.
use Rattle.std.proofs.Common.{◌≡◌, ◌≢◌, ◌⊎◌, ℕ, zero, suc, ◌+◌, ◌-◌, ◌*◌, ◌<◌, ◌≤◌, max, Bool, true, false, if◌then◌else◌, ◌==◌, eqb, List, [], ◌∷◌, ◌++◌, length, set, refl, sym, ap, ◌∙◌, subst, ⊎_elim, inl, inr, arith, eq-eqb, ne_eqb, lit<, lit≤}
use Rattle.std.{specs.{Prelude.{slice_index, bit_or}, Int.bit_at}, proofs.lemmas.Nat.Bits.{bit_at-lt, bit_at_or}}
use mathlib.Core.Logic.{dite}
use native.Mathlib.Decide.{ℕ_discrete}
use Rattle.atomic_table.specs.Table.{Splits, Joins, opening}
use Rattle.hsm.specs.{declared.view.{Stage.TheVariants.{Out, Running}, Action.Action}, Words.{HartView, HartSeatView, WordBits, word_bits}}
use Rattle.hsm.specs.Rule.{Grants, claim_of, entry_of, is_pending, in_flight, Fits, Sound, HartInvariant, reading, first_word, stands}
use Rattle.hsm.specs.{States.{stopped, started, awaits, IsAt, Shows}, Outcomes.{opening_states, opening_stage, opening_view}}
use Rattle.hsm.proofs.Words.{mask, mask_here, mask_else}
use Rattle.tallies.{specs.{Sums.total, Rules.Everywhere}, proofs.Noted.{parted, no_actions}}
use Rattle.tallies.proofs.Rules.{each_split, each_join, each_open, logged_split, logged_join, logged_open}
use Rattle.tallies.proofs.Totals.{total-append, total_split, total_join}
use Rattle.tallies.specs.Notes.{opening_from, first_hart, other_harts, together, nobody}

-- ---- parting and joining
module _ (harts : ℕ) (m : WordBits) (g : Grants) (views views' : List HartSeatView) (sound : Sound harts m g views)
    (sums : (f : HartView → ℕ) → total (λ (v : HartSeatView). total f v.harts) views' ≡ total (λ (v : HartSeatView). total f v.harts) views) where
  -- the views say the same together
  regroup : Everywhere (λ v. Fits harts m g v.hart v.stage) views' → Sound harts m g views'
  regroup fits = record {
    order = sound.order;
    flying = λ t lt. let a = sums (λ v. in_flight t v.stage) in let b = sound.flying t lt in omega arith;
    ledger = λ t a o lt.
        let l = sound.ledger t a o lt in let p = sums (λ v. total (claim_of t a o) v.actions) in let q = sums (λ v. total (entry_of t a o) v.actions) in omega arith;
    armed = sound.armed;
    fits = fits;
    settled = sound.settled;
  }

pub splits : (harts boot id : ℕ) (c : HartSeatView) → Splits (HartInvariant harts boot) id c (first_hart c) (other_harts c)
splits harts boot id c s kept at = record {
  steps = logged_split reading (first_word boot) harts (1 + 2 * harts) s kept.steps id c at;
  grants = kept.grants;
  sites = kept.sites;
  sound = regroup harts (word_bits s.words) kept.grants s.views (set s.views id (first_hart c) ++ other_harts c ∷ []) kept.sound
      (λ f. total_split (λ (v : HartSeatView). total f v.harts) s.views id c (first_hart c) (other_harts c) at (parted f c.harts))
      (each_split (λ v. Fits harts (word_bits s.words) kept.grants v.hart v.stage) s.views id c at kept.sound.fits);
}

pub joins : (harts boot id : ℕ) (c : HartSeatView) (other : ℕ) (d : HartSeatView) → Joins (HartInvariant harts boot) id c other d (together c d) nobody
joins harts boot id c other d s kept at ne there = record {
  steps = logged_join reading (first_word boot) harts (1 + 2 * harts) s kept.steps id c other d at ne there;
  grants = kept.grants;
  sites = kept.sites;
  sound = regroup harts (word_bits s.words) kept.grants s.views (set (set s.views id (together c d)) other nobody) kept.sound
      (λ f. total_join (λ (v : HartSeatView). total f v.harts) s.views id other c d (together c d) nobody at there (total-append f c.harts d.harts) refl)
      (each_join (λ v. Fits harts (word_bits s.words) kept.grants v.hart v.stage) s.views id c at other d ne there kept.sound.fits);
}

-- ---- the start
abbrev pub opening_word : ℕ → ℕ
opening_word s = bit_or (bit_or (mask s) (mask (8 + s))) (mask (16 + s))

first_bits : (s i : ℕ) → bit_at (opening_word s) i ≡ max (max (bit_at (mask s) i) (bit_at (mask (8 + s)) i)) (bit_at (mask (16 + s)) i)
first_bits s i = bit_at_or (bit_or (mask s) (mask (8 + s))) (mask (16 + s)) i ∙ ap (λ (x : ℕ). max x (bit_at (mask (16 + s)) i)) (bit_at_or (mask s) (mask (8 + s)) i)

module _ (s : ℕ) (small : s < 8) where
  first_other : (i : ℕ) → i ≢ s → i ≢ 8 + s → i ≢ 16 + s → bit_at (opening_word s) i ≡ 0
  first_other i n0 n1 n2 =
      let b = first_bits s i in
      let p = mask_else s i (omega arith) n0 in let q = mask_else (8 + s) i (omega arith) n1 in let r = mask_else (16 + s) i (omega arith) n2 in omega arith

  first_one : (i : ℕ) → (i ≡ s) ⊎ ((i ≡ 8 + s) ⊎ (i ≡ 16 + s)) → bit_at (opening_word s) i ≡ 1
  first_one i is =
      let b = first_bits s i in
      let x = bit_at-lt (mask s) i in let y = bit_at-lt (mask (8 + s)) i in let z = bit_at-lt (mask (16 + s)) i in
      ⊎_elim
      (λ (e : i ≡ s). let p : bit_at (mask s) i ≡ 1 = ap (bit_at (mask s)) e ∙ mask_here s (omega arith) in omega arith)
      (λ (e : (i ≡ 8 + s) ⊎ (i ≡ 16 + s)). ⊎_elim
      (λ (e : i ≡ 8 + s). let p : bit_at (mask (8 + s)) i ≡ 1 = ap (bit_at (mask (8 + s))) e ∙ mask_here (8 + s) (omega arith) in omega arith)
      (λ (e : i ≡ 16 + s). let p : bit_at (mask (16 + s)) i ≡ 1 = ap (bit_at (mask (16 + s))) e ∙ mask_here (16 + s) (omega arith) in omega arith)
      e)
      is

module _ (lone : ℕ) where
  in_flight_start : (t : ℕ) (b : Bool) → in_flight t (if b then Running else Out) ≡ 0
  in_flight_start t true = refl
  in_flight_start t false = refl

  no_flights : (t first n : ℕ) → total (λ (v : HartView). in_flight t v.stage) (opening_from (opening_stage lone) first n) ≡ 0
  no_flights t first zero = refl
  no_flights t first (suc n) = let a = in_flight_start t (eqb first lone) in let more = no_flights t (suc first) n in omega arith

unpended : (p q : Bool) (n : ℕ) → n ≡ 0 → ◌≡◌ {A = ℕ} (if p then (if q then n else 0) else 0) 0
unpended true true n e = e
unpended true false n e = refl
unpended false q n e = refl

-- the grants before any claim
abbrev no_grants : Grants
no_grants = record { address = λ h. 0x80000000; opaque = λ h. 0 }

pub opens : (harts lone : ℕ) (words : List ℕ) → lone < harts → harts ≤ 8 → length words ≡ 1 + 2 * harts → slice_index words 0 ≡ opening_word lone → ((i : ℕ) → 0 < i → i < 1 + 2 * harts → slice_index words i ≡ 0)
    → HartInvariant harts lone (opening words [] (opening_view harts lone))
opens harts lone words below small long first zeros = record {
  steps = logged_open reading (first_word lone) harts (1 + 2 * harts) (opening_stage lone) words long (λ t lt. dite (ℕ_discrete t 0)
      (λ e. ap (slice_index words) e ∙ (first ∙ sym (rw (eq-eqb t 0 e) refl)))
      (λ ne. zeros t (omega arith) lt ∙ sym (rw (ne_eqb t 0 ne) refl)));
  grants = no_grants;
  sites = λ h. (lit≤ tt, lit< tt, refl);
  sound = record {
    order = λ h lt. elim (ℕ_discrete h lone) [
      | yes is ↦ (let a = one h (inl is) in let b = one (8 + h) (inr (inl (omega arith))) in let d = one (16 + h) (inr (inr (omega arith))) in let e = other (24 + h) (λ x. omega arith) (λ x. omega arith) (λ x. omega arith) in (omega arith, omega arith, omega arith, omega arith))
      | no ne ↦ (let a = other h ne (λ x. omega arith) (λ x. omega arith) in let b = other (8 + h) (λ x. omega arith) (λ x. ne (omega arith)) (λ x. omega arith) in let d = other (16 + h) (λ x. omega arith) (λ x. omega arith) (λ x. ne (omega arith)) in let e = other (24 + h) (λ x. omega arith) (λ x. omega arith) (λ x. omega arith) in (omega arith, omega arith, omega arith, omega arith))
    ];
    flying = λ t lt. let z = no_flights lone t 0 harts in elim (ℕ_discrete t lone) [
      | yes is ↦ (let a = one t (inl is) in let b = one (8 + t) (inr (inl (omega arith))) in omega arith)
      | no ne ↦ (let a = other t ne (λ x. omega arith) (λ x. omega arith) in let b = other (8 + t) (λ x. omega arith) (λ x. ne (omega arith)) (λ x. omega arith) in omega arith)
    ];
    ledger = λ t a o lt.
        let z = no_actions Action (opening_stage lone) (claim_of t a o) 0 harts in
        let y = no_actions Action (opening_stage lone) (entry_of t a o) 0 harts in
        let w : is_pending (word_bits words) no_grants t a o ≡ 0 = unpended (eqb 0x80000000 a) (eqb 0 o) (bit_at (slice_index words 0) t - bit_at (slice_index words 0) (16 + t)) (elim (ℕ_discrete t lone) [
          | yes is ↦ (let p = one t (inl is) in let q = one (16 + t) (inr (inr (omega arith))) in omega arith)
          | no ne ↦ (let p = other t ne (λ x. omega arith) (λ x. omega arith) in omega arith)
        ]) in
        omega arith;
    armed = λ t lt ar en. elim (ℕ_discrete t lone) [
      | yes is ↦ (let q = one (16 + t) (inr (inr (omega arith))) in absurd (omega arith))
      | no ne ↦ (let q = other (8 + t) (λ x. omega arith) (λ x. ne (omega arith)) (λ x. omega arith) in absurd (omega arith))
    ];
    fits = each_open (opening_stage lone) (λ v. Fits harts (word_bits words) no_grants v.hart v.stage) harts fit;
    settled = (lone, below, one lone (inl refl) ∙ sym (one (16 + lone) (inr (inr refl))));
  };
}
  where
    one : (i : ℕ) → (i ≡ lone) ⊎ ((i ≡ 8 + lone) ⊎ (i ≡ 16 + lone)) → bit_at (slice_index words 0) i ≡ 1
    one i is = ap (λ (n : ℕ). bit_at n i) first ∙ first_one lone (omega arith) i is

    other : (i : ℕ) → i ≢ lone → i ≢ 8 + lone → i ≢ 16 + lone → bit_at (slice_index words 0) i ≡ 0
    other i a b d = ap (λ (n : ℕ). bit_at n i) first ∙ first_other lone (omega arith) i a b d

    fit : (h : ℕ) → h < harts → Fits harts (word_bits words) no_grants h (if h == lone then Running else Out)
    fit h lt = elim (ℕ_discrete h lone) [
      | yes is ↦ subst (λ (b : Bool). Fits harts (word_bits words) no_grants h (if b then Running else Out)) (sym (eq-eqb h lone is))
          (one (16 + h) (inr (inr (omega arith))), other (24 + h) (λ x. omega arith) (λ x. omega arith) (λ x. omega arith))
      | no ne ↦ subst (λ (b : Bool). Fits harts (word_bits words) no_grants h (if b then Running else Out)) (sym (ne_eqb h lone ne))
          (other (16 + h) (λ x. omega arith) (λ x. omega arith) (λ x. ne (omega arith)))
    ]

-- ---- the states at the start
opening_stands : (first h from n : ℕ) → from ≤ h → h < from + n → stands h (if h == first then Running else Out) (opening_from (opening_stage first) from n)
opening_stands first h from zero low high = absurd (omega arith)
opening_stands first h from (suc n) low high =
    dite (ℕ_discrete from h)
    (λ e. inl (e, ap (λ (k : ℕ). if k == first then Running else Out) e))
    (λ ne. inr (ne, opening_stands first h (suc from) n (omega arith) (omega arith)))

pub opens_standing : (harts first : ℕ) (h : ℕ) → h < harts → stands h (if h == first then Running else Out) (opening_view harts first).harts
opens_standing harts first h lt = opening_stands first h 0 harts (omega arith) (omega arith)

pub opens_shown : (harts first : ℕ) → Shows harts (opening_view harts first) (opening_states first)
opens_shown harts first h lt = (
  (if h == first then Running else Out),
  opens_standing harts first h lt,
  stage (eqb h first),
  (λ a o. let p = no_actions Action (opening_stage first) (claim_of h a o) 0 harts in let q = no_actions Action (opening_stage first) (entry_of h a o) 0 harts in let r = none (eqb h first) a o in omega arith),
)
  where
    stage : (b : Bool) → IsAt (if b then started else stopped) (if b then Running else Out)
    stage true = refl
    stage false = refl

    none : (b : Bool) (a o : ℕ) → awaits (if b then started else stopped) a o ≡ 0
    none true a o = refl
    none false a o = refl
