-- Contents that are the same but for some ranges.
use Rattle.std.proofs.Common.{◌≡◌, ◌⊎◌, ◌∙◌, inl, inr, ⊎_elim, subst, zero, suc, ℕ, ◌+◌, ◌<◌, ◌≤◌, List, [], ◌∷◌, ◌++◌, length, take, drop, sym, arith, rules}
use Rattle.std.proofs.lemmas.{List.{places, ext_get_or}, Bool.cases_lt}
use Rattle.disk.specs.{Facts.{Content, sector, Torn}, WriteLog.{Untouched, AgreesOutside, range_at}}

pub untouched_push : (rs : List (ℕ × ℕ)) (r : ℕ × ℕ) (k : ℕ) → Untouched (rs ++ r ∷ []) k → Untouched rs k × ((k < r.0) ⊎ (r.0 + r.1 ≤ k))
untouched_push [] r k u = (tt, u.0)
untouched_push (x ∷ rs) r k u =
    let rest = untouched_push rs r k u.1 in
    ((u.0, rest.0), rest.1)

untouched_more : (rs : List (ℕ × ℕ)) (r : ℕ × ℕ) (k : ℕ) → Untouched rs k → (k < r.0) ⊎ (r.0 + r.1 ≤ k) → Untouched (rs ++ r ∷ []) k
untouched_more [] r k u out = (out, tt)
untouched_more (x ∷ rs) r k u out = (u.0, untouched_more rs r k u.1 out)

-- a sector that none of them has is outside the one at that place
pub untouched_at : (rs : List (ℕ × ℕ)) (i : ℕ) (r : ℕ × ℕ) (k : ℕ) → i < length rs → range_at rs i ≡ r → Untouched rs k → (k < r.0) ⊎ (r.0 + r.1 ≤ k)
untouched_at [] i r k lt is u = absurd (omega arith)
untouched_at (x ∷ rs) zero r k lt is u = subst (λ (y : ℕ × ℕ). (k < y.0) ⊎ (y.0 + y.1 ≤ k)) is u.0
untouched_at (x ∷ rs) (suc i) r k lt is u = untouched_at rs i r k (omega arith) is u.1

pub agrees_write : (stood : Content) (rs : List (ℕ × ℕ)) (first n : ℕ) (now new : Content) → AgreesOutside stood rs now → Torn first n now new → AgreesOutside stood (rs ++ (first, n) ∷ []) new
agrees_write stood rs first n now new a torn = record {
  as_long = torn.as_long ∙ a.as_long;
  same = λ k u. let p = untouched_push rs (first, n) k u in ⊎_elim (λ low. torn.before k low ∙ a.same k p.0) (λ high. torn.after k high ∙ a.same k p.0) p.1;
}

pub agrees_push : (stood : Content) (rs : List (ℕ × ℕ)) (r : ℕ × ℕ) (c : Content) → AgreesOutside stood rs c → AgreesOutside stood (rs ++ r ∷ []) c
agrees_push stood rs r c a = record { as_long = a.as_long; same = λ k u. a.same k (untouched_push rs r k u).0 }

-- a content torn in one of the ranges
pub agrees_torn : (stood : Content) (rs : List (ℕ × ℕ)) (i : ℕ) (r : ℕ × ℕ) (c d : Content) → i < length rs → range_at rs i ≡ r → AgreesOutside stood rs c → Torn r.0 r.1 c d → AgreesOutside stood rs d
agrees_torn stood rs i r c d lt is a torn = record {
  as_long = torn.as_long ∙ a.as_long;
  same = λ k u. ⊎_elim (λ low. torn.before k low ∙ a.same k u) (λ high. torn.after k high ∙ a.same k u) (untouched_at rs i r k lt is u);
}

-- c, with n sectors from the other
abbrev pub patched : ℕ → ℕ → Content → Content → Content
patched first n from c = take first c ++ (take n (drop first from) ++ drop (first + n) c)

module _ (first n : ℕ) (from c : Content) (same_length : length c ≡ length from) (within : first + n ≤ length from) where
  length-patched : length (patched first n from c) ≡ length c
  length-patched = search (rules, places)

  pub patched_low : (k : ℕ) → k < first → sector (patched first n from c) k ≡ sector c k
  patched_low k low = search (rules, places)

  pub patched_mid : (k : ℕ) → first ≤ k → k < first + n → sector (patched first n from c) k ≡ sector from k
  patched_mid k le lt = search (rules, places)

  pub patched_high : (k : ℕ) → first + n ≤ k → sector (patched first n from c) k ≡ sector c k
  patched_high k high = search (rules, places)

-- what a crash after a write may leave is what it might have left before, torn there
pub crash_write : (stood : Content) (rs : List (ℕ × ℕ)) (first n : ℕ) (c : Content) → first + n ≤ length stood → AgreesOutside stood (rs ++ (first, n) ∷ []) c → (d : Content) × AgreesOutside stood rs d × Torn first n d c
crash_write stood rs first n c within a = (
  patched first n stood c,
  record {
    as_long = length-patched first n stood c a.as_long within ∙ a.as_long;
    same = λ k u. elim (cases_lt k first) [
      | inl low ↦ patched_low first n stood c a.as_long within k low ∙ a.same k (outside k u (inl low))
      | inr le ↦ elim (cases_lt k (first + n)) [
        | inl lt ↦ patched_mid first n stood c a.as_long within k le lt
        | inr high ↦ patched_high first n stood c a.as_long within k high ∙ a.same k (outside k u (inr high))
      ]
    ];
  },
  record {
    as_long = sym (length-patched first n stood c a.as_long within);
    before = λ k low. sym (patched_low first n stood c a.as_long within k low);
    after = λ k high. sym (patched_high first n stood c a.as_long within k high);
  },
)
  where
    outside : (k : ℕ) → Untouched rs k → (k < first) ⊎ (first + n ≤ k) → Untouched (rs ++ (first, n) ∷ []) k
    outside k u out = untouched_more rs (first, n) k u out

-- after a sync a crash may leave no more than before
pub crash_sync : (stood : Content) (rs next : List (ℕ × ℕ)) (now c : Content) → AgreesOutside stood rs now → ((k : ℕ) → Untouched rs k → Untouched next k) → AgreesOutside now next c → AgreesOutside stood rs c
crash_sync stood rs next now c was fewer a = record { as_long = a.as_long ∙ was.as_long; same = λ k u. a.same k (fewer k u) ∙ was.same k u }

-- where no sector is in a range, what stood is all
pub durable : (first n : ℕ) (now c : Content) → n ≡ 0 → AgreesOutside now ((first, n) ∷ []) c → c ≡ now
durable first n now c none a = ext_get_or [] c now a.as_long (λ k lt. elim (cases_lt k first) [
  | inl low ↦ a.same k (inl low, tt)
  | inr le ↦ a.same k (inr (omega arith), tt)
])

pub agrees_all : (now c : Content) → AgreesOutside now [] c → c ≡ now
agrees_all now c a = ext_get_or [] c now a.as_long (λ k lt. a.same k tt)
