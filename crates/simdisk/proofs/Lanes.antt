-- What a split and a join do to a device, to its log, and to the facts of the disk over both.
use Rattle.std.proofs.Common.{◌≡◌, ◌⊎◌, ◌∙◌, inl, inr, ⊎_elim, sym, ap, subst, ℕ, ◌+◌, ◌*◌, ◌<◌, ◌≤◌, List, [], length, arith}
use Rattle.std.proofs.{Math.Nat.zero-mul, lemmas.{List.ext_get_or, Bool.cases_lt}}
use Rattle.disk.specs.Facts.{Content, Facts, LaneFacts, Lent, Joined, Passes, Stays, Torn, nothing, sector, lent_sectors}
use Rattle.disk.specs.WriteLog.{WriteLog, AgreesOutside, AreWithin, Untouched, lent_piece, more_written, ranges, synced}
use Rattle.simdisk.{specs.Kept.{IsKept, facts_over}, proofs.Kept.{kept_more, untouched_more, range_lent, tears_over}}

-- what was lent counts as written
module _ (log log' : WriteLog) (a b : Facts) (l : Lent) (kept : IsKept log a) (lent : b.lent ≡ l) (within : l.first + lent_sectors l ≤ length a.content) (same : b.content ≡ a.content) (more : log' ≡ more_written (lent_piece b.lent b.content) log) where
  more_l : log' ≡ more_written (lent_piece l a.content) log
  more_l = more ∙ ap (λ (m : Lent). more_written (lent_piece m b.content) log) lent ∙ ap (λ (c : Content). more_written (lent_piece l c) log) same

  long : length (lent_piece l a.content).1 ≡ lent_sectors l
  long = range_lent l a.content within

  pub split_passes : (x y : Content) (i j : ℕ) → Passes (facts_over x log i a) (facts_over y log' j b) (Torn l.first (lent_sectors l))
  split_passes x y i j = subst (λ (n : ℕ). Passes (facts_over x log i a) (facts_over y log' j b) (Torn l.first n)) long (tears_over x y log log' i j a b (lent_piece l a.content) kept more_l (rw long within))

  pub split_kept : Passes a b (Torn l.first (lent_sectors l)) → IsKept log' b
  split_kept passes = record {
    fits = subst (λ (c : Content). AreWithin (length c) (ranges log'.written)) (sym same) noted.fits;
    holds = subst (λ (c : Content). AgreesOutside (synced log') (ranges log'.written) c) (sym same) noted.holds;
    leaves = λ c may. let from = passes.now c may in record {
      as_long = from.2.as_long ∙ (noted.leaves from.0 from.1).as_long;
      same = λ k u. ⊎_elim (from.2.before k) (from.2.after k) (outside k u) ∙ (noted.leaves from.0 from.1).same k u;
    };
    lent = λ k le lt u. out k (subst (λ (m : Lent). m.first ≤ k) lent le) (subst (λ (m : Lent). k < m.first + lent_sectors m) lent lt) (outside k u);
    lent_fits = subst (λ (m : Lent). m.first + lent_sectors m ≤ length b.content) (sym lent) (rw same within);
  }
    where
      noted : IsKept log' a
      noted = kept_more log log' (lent_piece l a.content) a kept more_l (rw long within)

      outside : (k : ℕ) → Untouched (ranges log'.written) k → (k < l.first) ⊎ (l.first + lent_sectors l ≤ k)
      outside k u = subst (λ (n : ℕ). (k < l.first) ⊎ (l.first + n ≤ k)) long (untouched_more log log' (lent_piece l a.content) k more_l u).1

      out : (k : ℕ) → l.first ≤ k → k < l.first + lent_sectors l → (k < l.first) ⊎ (l.first + lent_sectors l ≤ k) → ⊥
      out k le lt (inl low) = omega (arith, le, low)
      out k le lt (inr high) = omega (arith, lt, high)

-- what was lent comes back
pub join_kept : (log : WriteLog) (a b : Facts) (lanes : List LaneFacts) → IsKept log a → Joined a.lent lanes a.content b.content → b.lent ≡ nothing → Passes a b Stays → IsKept log b
join_kept log a b lanes kept joined back passes = record {
  fits = subst (λ (n : ℕ). AreWithin n (ranges log.written)) (sym joined.elsewhere.as_long) kept.fits;
  holds = record { as_long = joined.elsewhere.as_long ∙ kept.holds.as_long; same = λ k u. torn k u ∙ kept.holds.same k u };
  leaves = λ c may. let from = passes.now c may in subst (λ (x : Content). AgreesOutside (synced log) (ranges log.written) x) (sym from.2) (kept.leaves from.0 from.1);
  lent = subst (λ (l : Lent). (k : ℕ) → l.first ≤ k → k < l.first + lent_sectors l → Untouched (ranges log.written) k → ⊥) (sym back) (λ k le lt u. omega (arith, lt));
  lent_fits = subst (λ (l : Lent). l.first + lent_sectors l ≤ length b.content) (sym back) (omega arith);
}
  where
    torn : (k : ℕ) → Untouched (ranges log.written) k → sector b.content k ≡ sector a.content k
    torn k u = elim (cases_lt k a.lent.first) [
      | inl low ↦ joined.elsewhere.before k low
      | inr le ↦ elim (cases_lt k (a.lent.first + lent_sectors a.lent)) [
        | inl less ↦ absurd (kept.lent k le less u)
        | inr high ↦ joined.elsewhere.after k high
      ]
    ]

-- nothing was lent: nothing came back
pub none_back : (a b : Facts) (lanes : List LaneFacts) → a.lent.lanes ≡ 0 → Joined a.lent lanes a.content b.content → b.content ≡ a.content
none_back a b lanes none joined = ext_get_or [] b.content a.content joined.elsewhere.as_long (λ k lt. elim (cases_lt k a.lent.first) [
  | inl low ↦ joined.elsewhere.before k low
  | inr le ↦ joined.elsewhere.after k (omega (arith, le, zero))
])
  where
    zero : lent_sectors a.lent ≡ 0
    zero = ap (λ (n : ℕ). n * a.lent.each) none ∙ zero-mul a.lent.each
