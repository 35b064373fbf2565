-- Every hart is made one that never ran.
use Rattle.std.proofs.Common.{ℕ, zero, suc, List, [], ◌∷◌, ◌≡◌, ◌+◌, ◌-◌, ◌<◌, length, sym, ap, ◌∙◌, subst, inl, inr, arith}
use Rattle.std.{specs.Prelude.{get_or, slice_set}, proofs.lemmas.Bool.{cases_eq, cases_lt}}
use Rattle.std.proofs.lemmas.List.{get_or-set_same, get_or-set_other, get_or_default, ext_get_or, get_or_append_left, get_or-append_right}
use Rattle.hart.specs.State.{ArchState, never_started}
use Rattle.machine.{specs.Machine.stopped_harts, proofs.Opening.long}

stopped_at : (n h : ℕ) (d : ArchState) → h < n → get_or (stopped_harts n) h d ≡ never_started h
stopped_at zero h d low = absurd (omega (arith, low))
stopped_at (suc n) h d low =
    elim (cases_lt h n) [
      | inl below ↦ get_or_append_left (stopped_harts n) (never_started n ∷ []) d h (let e = long n in omega (arith, e, below)) ∙ stopped_at n h d below
      | inr above ↦ (
          let e : h ≡ n = omega (arith, low, above) in
          let z : h - n ≡ 0 = omega (arith, e) in
          get_or-append_right (stopped_harts n) (never_started n ∷ []) n h d (long n) (omega (arith, e)) ∙ (ap (λ (k : ℕ). get_or (never_started n ∷ []) k d) z ∙ ap never_started (sym e)))
    ]

pub one_stopped : (harts : List ArchState) (i : ℕ) (y : ArchState) → ((k : ℕ) → k < i → get_or harts k (never_started k) ≡ never_started k) → i < length harts → y ≡ never_started i → (k : ℕ) → k < i + 1 → get_or (slice_set harts i y) k (never_started k) ≡ never_started k
one_stopped harts i y done low is k below =
    elim (cases_eq k i) [
      | inl e ↦ subst (λ (j : ℕ). get_or (slice_set harts i y) j (never_started j) ≡ never_started j) (sym e) (get_or-set_same harts i y (never_started i) low ∙ is)
      | inr other ↦ get_or-set_other harts i k y (never_started k) other ∙ done k (omega (arith, below, other))
    ]

pub all_stopped : (now : List ArchState) (n : ℕ) → length now ≡ n → ((k : ℕ) → k < n → get_or now k (never_started k) ≡ never_started k) → now ≡ stopped_harts n
all_stopped now n e done =
    ext_get_or (never_started 0) now (stopped_harts n) (e ∙ sym (long n))
    (λ k inside.
    let low : k < n = subst (λ (m : ℕ). k < m) e inside in
    get_or_default now k (never_started 0) (never_started k) inside ∙ (done k low ∙ sym (stopped_at n k (never_started 0) low)))
