-- Pieces without a sector, laid over a content with that sector put.
use Rattle.std.proofs.Common.{◌≡◌, ◌∙◌, inl, inr, refl, ℕ, ◌+◌, ◌-◌, ◌<◌, ◌≤◌, List, [], ◌∷◌, ◌++◌, length, take, drop, sym, ap, subst, arith}
use Rattle.std.{proofs.lemmas.{List.{ext_get_or, get_or-take, get_or-drop}, Bool.{cases_lt, cases_eq}}, specs.List.flat_map}
use Rattle.disk.specs.{Facts.{Content, sector}, WriteLog.{Piece, laid_over, replay, ranges, AreWithin}}
use Rattle.disk.proofs.Pieces.{length-put, put_low, put_mid, put_high, fits_here, fits_rest}
use Rattle.simdisk.specs.Pokes.{part_before, part_behind, parted}
use Rattle.simdisk.proofs.Parted.{Outside, where_is, parted_by, long_before, long_behind, out_before, out_behind, own_before, own_behind}

put_out : (p : Piece) (c : Content) (j : ℕ) → p.0 + length p.1 ≤ length c → Outside j p → sector (laid_over p c) j ≡ sector c j
put_out p c j within (inl low) = put_low p.0 p.1 c within j low
put_out p c j within (inr high) = put_high p.0 p.1 c within j high

-- a content with the k-th sector so
module _ (k : ℕ) (v : List ℕ) where
  in_one : (c : Content) → k < length c → k + length (v ∷ []) ≤ length c
  in_one c lt = omega (arith, lt)

  pub long_poked : (c : Content) → k < length c → length (laid_over (k, v ∷ []) c) ≡ length c
  long_poked c lt = length-put k (v ∷ []) c (in_one c lt)

  pub at_own : (c : Content) (j : ℕ) → k < length c → j ≡ k → sector (laid_over (k, v ∷ []) c) j ≡ v
  at_own c j lt is = put_mid k (v ∷ []) c (in_one c lt) j (omega (arith, is)) (omega (arith, is)) ∙ ap (λ (n : ℕ). sector (v ∷ []) n) first
    where
      first : j - k ≡ 0
      first = omega (arith, is)

  pub at_other : (c : Content) (j : ℕ) → k < length c → (j ≡ k → ⊥) → sector (laid_over (k, v ∷ []) c) j ≡ sector c j
  at_other c j lt other = elim (cases_lt j k) [
    | inl low ↦ put_low k (v ∷ []) c (in_one c lt) j low
    | inr le ↦ elim (cases_lt k j) [
      | inl high ↦ put_high k (v ∷ []) c (in_one c lt) j (omega (arith, high))
      | inr more ↦ absurd (other (omega (arith, le, more)))
    ]
  ]

  module _ (p : Piece) (c : Content) (lt : k < length c) (fits : p.0 + length p.1 ≤ length c) where
    wide : k < length (laid_over p c)
    wide = omega (arith, lt, length-put p.0 p.1 c fits)

    inside : p.0 + length p.1 ≤ length (laid_over (k, v ∷ []) c)
    inside = omega (arith, fits, long_poked c lt)

    long_both : length (laid_over (k, v ∷ []) (laid_over p c)) ≡ length c
    long_both = long_poked (laid_over p c) wide ∙ length-put p.0 p.1 c fits

    -- a piece without the sector, laid over it
    commute_out : Outside k p → laid_over p (laid_over (k, v ∷ []) c) ≡ laid_over (k, v ∷ []) (laid_over p c)
    commute_out out = ext_get_or [] (laid_over p (laid_over (k, v ∷ []) c)) (laid_over (k, v ∷ []) (laid_over p c)) (length-put p.0 p.1 (laid_over (k, v ∷ []) c) inside ∙ long_poked c lt ∙ sym long_both) (λ j less. elim (cases_eq j k) [
      | inl is ↦ put_out p (laid_over (k, v ∷ []) c) j inside (subst (λ (n : ℕ). Outside n p) (sym is) out) ∙ at_own c j lt is ∙ sym (at_own (laid_over p c) j wide is)
      | inr other ↦ elim (where_is j p) [
        | inl o ↦ put_out p (laid_over (k, v ∷ []) c) j inside o ∙ at_other c j lt other ∙ sym (at_other (laid_over p c) j wide other ∙ put_out p c j fits o)
        | inr i ↦ put_mid p.0 p.1 (laid_over (k, v ∷ []) c) inside j i.0 i.1 ∙ sym (at_other (laid_over p c) j wide other ∙ put_mid p.0 p.1 c fits j i.0 i.1)
      ]
    ])

    -- the parts of a piece that has it
    module _ (le : p.0 ≤ k) (less : k < p.0 + length p.1) where
      fits_before : p.0 + length (take (k - p.0) p.1) ≤ length (laid_over (k, v ∷ []) c)
      fits_before = omega (arith, inside, long_before k p le less, le, less)

      long_first : length (laid_over (part_before k p) (laid_over (k, v ∷ []) c)) ≡ length (laid_over (k, v ∷ []) c)
      long_first = length-put p.0 (take (k - p.0) p.1) (laid_over (k, v ∷ []) c) fits_before

      fits_behind : k + 1 + length (drop (k - p.0 + 1) p.1) ≤ length (laid_over (part_before k p) (laid_over (k, v ∷ []) c))
      fits_behind = omega (arith, inside, long_behind k p le less, long_first)

      over_both : (j : ℕ) → Outside j (part_before k p) → Outside j (part_behind k p) → sector (laid_over (part_behind k p) (laid_over (part_before k p) (laid_over (k, v ∷ []) c))) j ≡ sector (laid_over (k, v ∷ []) c) j
      over_both j a b = put_out (part_behind k p) (laid_over (part_before k p) (laid_over (k, v ∷ []) c)) j fits_behind b ∙ put_out (part_before k p) (laid_over (k, v ∷ []) c) j fits_before a

      in_before : (j : ℕ) → p.0 ≤ j → j < k → sector (laid_over (part_behind k p) (laid_over (part_before k p) (laid_over (k, v ∷ []) c))) j ≡ sector p.1 (j - p.0)
      in_before j from low =
          put_out (part_behind k p) (laid_over (part_before k p) (laid_over (k, v ∷ []) c)) j fits_behind (inl (omega (arith, low)))
          ∙ put_mid p.0 (take (k - p.0) p.1) (laid_over (k, v ∷ []) c) fits_before j from (omega (arith, from, low, long_before k p le less))
          ∙ get_or-take (k - p.0) p.1 (j - p.0) [] (omega (arith, from, low))

      in_behind : (j : ℕ) → k < j → j < p.0 + length p.1 → sector (laid_over (part_behind k p) (laid_over (part_before k p) (laid_over (k, v ∷ []) c))) j ≡ sector p.1 (j - p.0)
      in_behind j high to =
          put_mid (k + 1) (drop (k - p.0 + 1) p.1) (laid_over (part_before k p) (laid_over (k, v ∷ []) c)) fits_behind j (omega (arith, high)) (omega (arith, to, long_behind k p le less))
          ∙ get_or-drop (k - p.0 + 1) p.1 (j - (k + 1)) [] ∙ ap (λ (n : ℕ). sector p.1 n) at
        where
          at : k - p.0 + 1 + (j - (k + 1)) ≡ j - p.0
          at = omega (arith, high, le)

      commute_in : laid_over (part_behind k p) (laid_over (part_before k p) (laid_over (k, v ∷ []) c)) ≡ laid_over (k, v ∷ []) (laid_over p c)
      commute_in = ext_get_or [] (laid_over (part_behind k p) (laid_over (part_before k p) (laid_over (k, v ∷ []) c))) (laid_over (k, v ∷ []) (laid_over p c))
          (length-put (k + 1) (drop (k - p.0 + 1) p.1) (laid_over (part_before k p) (laid_over (k, v ∷ []) c)) fits_behind ∙ long_first ∙ long_poked c lt ∙ sym long_both) (λ j short. elim (cases_eq j k) [
            | inl is ↦ over_both j (subst (λ (n : ℕ). Outside n (part_before k p)) (sym is) (own_before k p le less)) (subst (λ (n : ℕ). Outside n (part_behind k p)) (sym is) (own_behind k p le less))
                ∙ at_own c j lt is ∙ sym (at_own (laid_over p c) j wide is)
            | inr other ↦ elim (where_is j p) [
              | inl o ↦ over_both j (out_before k p le less j o) (out_behind k p le less j o) ∙ at_other c j lt other ∙ sym (at_other (laid_over p c) j wide other ∙ put_out p c j fits o)
              | inr i ↦ (elim (cases_lt j k) [
                | inl low ↦ in_before j i.0 low
                | inr more ↦ elim (cases_lt k j) [ inl high ↦ in_behind j high i.1 | inr same ↦ absurd (other (omega (arith, more, same))) ]
              ]) ∙ sym (at_other (laid_over p c) j wide other ∙ put_mid p.0 p.1 c fits j i.0 i.1)
            ]
          ])

  -- the parts, laid over a content with the sector
  pub replay_parted : (ps : List Piece) (c : Content) → k < length c → AreWithin (length c) (ranges ps) → replay (flat_map (parted k) ps) (laid_over (k, v ∷ []) c) ≡ laid_over (k, v ∷ []) (replay ps c)
  replay_parted [] c lt fits = refl
  replay_parted (p ∷ ps) c lt fits =
      let here : p.0 + length p.1 ≤ length c = fits_here (length c) p ps fits in
      let long : length (laid_over p c) ≡ length c = length-put p.0 p.1 c here in
      let rest : replay (flat_map (parted k) ps) (laid_over (k, v ∷ []) (laid_over p c)) ≡ laid_over (k, v ∷ []) (replay ps (laid_over p c)) = replay_parted ps (laid_over p c) (wide p c lt here) (subst (λ (n : ℕ). AreWithin n (ranges ps)) (sym long) (fits_rest (length c) p ps fits)) in
      parted_by k p (λ (qs : List Piece). replay (qs ++ flat_map (parted k) ps) (laid_over (k, v ∷ []) c) ≡ laid_over (k, v ∷ []) (replay ps (laid_over p c)))
      (λ out. ap (λ (d : Content). replay (flat_map (parted k) ps) d) (commute_out p c lt here out) ∙ rest)
      (λ le less. ap (λ (d : Content). replay (flat_map (parted k) ps) d) (commute_in p c lt here le less) ∙ rest)
