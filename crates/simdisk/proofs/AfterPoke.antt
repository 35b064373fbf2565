-- What a crash leaves of a disk that was poked.
use Rattle.std.proofs.Common.{◌≡◌, ◌∙◌, ◌↔◌, inl, inr, refl, ℕ, ◌+◌, ◌-◌, ◌<◌, ◌≤◌, List, [], ◌∷◌, ◌++◌, length, take, drop, map, replicate, sym, ap, subst, arith, length-drop}
use Rattle.std.proofs.lemmas.{List.{map-append, ext_get_or, length-replicate, take-replicate, drop-replicate}, Bool.cases_eq}
use Rattle.std.specs.List.{flat_map}
use Rattle.disk.{specs.Facts.{Content, sector}, proofs.Pieces.ranges_filled}
use Rattle.disk.specs.WriteLog.{Piece, WriteLog, laid_over, replay, synced, filled, ranges, Untouched, AgreesOutside, AreWithin}
use Rattle.simdisk.specs.{declared.fill.Fill.{Fill, TheVariants.{Byte, Alternating, Old, New}}, Views.{alternating, left_by_fill}}
use Rattle.simdisk.specs.Pokes.{part_before, part_behind, parted, poked_log}
use Rattle.simdisk.proofs.Parted.{Outside, parted_out, parted_in, parted_by, long_before, untouched_by, parts_untouched, own_untouched}
use Rattle.simdisk.proofs.PartedLaid.{long_poked, at_own, at_other, replay_parted}

-- to fill the parts is to part what is filled
filled_parted : (bytes : List ℕ) (k : ℕ) (p : Piece) → map (filled bytes) (parted k p) ≡ parted k (filled bytes p)
filled_parted bytes k p =
    parted_by k p (λ (qs : List Piece). map (filled bytes) qs ≡ parted k (filled bytes p)) (λ out. sym (parted_out k (filled bytes p) (still out))) (λ le less.
    ap (λ (s : Content). (p.0, s) ∷ filled bytes (part_behind k p) ∷ []) (first le less) ∙ ap (λ (s : Content). part_before k (filled bytes p) ∷ (k + 1, s) ∷ []) second
    ∙ sym (parted_in k (filled bytes p) le (omega (arith, less, long))))
  where
    long : length (replicate (length p.1) bytes) ≡ length p.1
    long = length-replicate (length p.1) bytes

    still : Outside k p → Outside k (filled bytes p)
    still (inl low) = inl low
    still (inr high) = inr (omega (arith, high, long))

    first : p.0 ≤ k → k < p.0 + length p.1 → replicate (length (take (k - p.0) p.1)) bytes ≡ take (k - p.0) (replicate (length p.1) bytes)
    first le less = ap (λ (n : ℕ). replicate n bytes) (long_before k p le less) ∙ sym (take-replicate (k - p.0) (length p.1) bytes (omega (arith, le, less)))

    second : replicate (length (drop (k - p.0 + 1) p.1)) bytes ≡ drop (k - p.0 + 1) (replicate (length p.1) bytes)
    second = ap (λ (n : ℕ). replicate n bytes) (length-drop (k - p.0 + 1) p.1) ∙ sym (drop-replicate (k - p.0 + 1) (length p.1) bytes)

filled_parts : (bytes : List ℕ) (k : ℕ) (ps : List Piece) → map (filled bytes) (flat_map (parted k) ps) ≡ flat_map (parted k) (map (filled bytes) ps)
filled_parts bytes k [] = refl
filled_parts bytes k (p ∷ ps) =
    map-append (filled bytes) (parted k p) (flat_map (parted k) ps) ∙ ap (λ (qs : List Piece). qs ++ map (filled bytes) (flat_map (parted k) ps)) (filled_parted bytes k p)
    ∙ ap (λ (qs : List Piece). parted k (filled bytes p) ++ qs) (filled_parts bytes k ps)

-- what a crash leaves of a content with the k-th sector so
module _ (k : ℕ) (v : List ℕ) (stood : Content) (ps : List Piece) (lt : k < length stood) where
  filled_poked : AreWithin (length stood) (ranges ps) → (bytes : List ℕ) → replay (map (filled bytes) (flat_map (parted k) ps)) (laid_over (k, v ∷ []) stood) ≡ laid_over (k, v ∷ []) (replay (map (filled bytes) ps) stood)
  filled_poked fits bytes =
      ap (λ (qs : List Piece). replay qs (laid_over (k, v ∷ []) stood)) (filled_parts bytes k ps)
      ∙ replay_parted k v (map (filled bytes) ps) stood lt (subst (λ (rs : List (ℕ × ℕ)). AreWithin (length stood) rs) (sym (ranges_filled bytes ps)) fits)

  pub left_poked : AreWithin (length stood) (ranges ps) → (fill : Fill) → left_by_fill fill (laid_over (k, v ∷ []) stood) (flat_map (parted k) ps) ≡ laid_over (k, v ∷ []) (left_by_fill fill stood ps)
  left_poked fits (Byte byte) = filled_poked fits (replicate 512 byte)
  left_poked fits Alternating = filled_poked fits alternating
  left_poked fits Old = refl
  left_poked fits New = replay_parted k v ps stood lt fits

  pub agrees_put : (c : Content) → AgreesOutside stood (ranges ps) c → AgreesOutside (laid_over (k, v ∷ []) stood) (ranges (flat_map (parted k) ps)) (laid_over (k, v ∷ []) c)
  agrees_put c a = record {
    as_long = long_poked k v c in_c ∙ a.as_long ∙ sym (long_poked k v stood lt);
    same = λ j u. elim (cases_eq j k) [
      | inl is ↦ at_own k v c j in_c is ∙ sym (at_own k v stood j lt is)
      | inr other ↦ at_other k v c j in_c other ∙ a.same j (untouched_by k ps j other u) ∙ sym (at_other k v stood j lt other)
    ];
  }
    where
      in_c : k < length c
      in_c = omega (arith, lt, a.as_long)

  -- each that a crash then may leave is one of those
  pub agrees_back : (c : Content) → AgreesOutside (laid_over (k, v ∷ []) stood) (ranges (flat_map (parted k) ps)) c → (d : Content) × AgreesOutside stood (ranges ps) d × (c ≡ laid_over (k, v ∷ []) d)
  agrees_back c a = (
    laid_over (k, sector stood k ∷ []) c,
    record {
      as_long = long ∙ as_stood;
      same = λ j u. elim (cases_eq j k) [
        | inl is ↦ at_own k (sector stood k) c j in_c is ∙ ap (λ (n : ℕ). sector stood n) (sym is)
        | inr other ↦ at_other k (sector stood k) c j in_c other ∙ a.same j (parts_untouched k ps j u) ∙ at_other k v stood j lt other
      ];
    },
    ext_get_or [] c (laid_over (k, v ∷ []) (laid_over (k, sector stood k ∷ []) c)) (sym (long_poked k v (laid_over (k, sector stood k ∷ []) c) in_d ∙ long)) (λ j less. elim (cases_eq j k) [
      | inl is ↦ a.same j (subst (λ (n : ℕ). Untouched (ranges (flat_map (parted k) ps)) n) (sym is) (own_untouched k ps)) ∙ at_own k v stood j lt is ∙ sym (at_own k v (laid_over (k, sector stood k ∷ []) c) j in_d is)
      | inr other ↦ sym (at_other k v (laid_over (k, sector stood k ∷ []) c) j in_d other ∙ at_other k (sector stood k) c j in_c other)
    ]),
  )
    where
      as_stood : length c ≡ length stood
      as_stood = a.as_long ∙ long_poked k v stood lt

      in_c : k < length c
      in_c = omega (arith, lt, as_stood)

      long : length (laid_over (k, sector stood k ∷ []) c) ≡ length c
      long = long_poked k (sector stood k) c in_c

      in_d : k < length (laid_over (k, sector stood k ∷ []) c)
      in_d = omega (arith, in_c, long)

-- the log of a disk that was poked
module _ (k : ℕ) (v : List ℕ) (r r' : WriteLog) (anew : r' ≡ poked_log k v r) (lt : k < length (synced r)) where
  pub fills_poked : AreWithin (length (synced r)) (ranges r.written) → (fill : Fill) → left_by_fill fill (synced r') r'.written ≡ laid_over (k, v ∷ []) (left_by_fill fill (synced r) r.written)
  fills_poked fits fill = ap (λ (q : WriteLog). left_by_fill fill (synced q) q.written) anew ∙ left_poked k v (synced r) r.written lt fits fill

  pub agrees_poked : (c c' : Content) → AgreesOutside (synced r) (ranges r.written) c → c' ≡ laid_over (k, v ∷ []) c → AgreesOutside (synced r') (ranges r'.written) c'
  agrees_poked c c' a laid =
      subst (λ (q : WriteLog). AgreesOutside (synced q) (ranges q.written) c') (sym anew)
      (subst (λ (d : Content). AgreesOutside (laid_over (k, v ∷ []) (synced r)) (ranges (flat_map (parted k) r.written)) d) (sym laid) (agrees_put k v (synced r) r.written lt c a))

  pub crash_poked : (c : Content) → AgreesOutside (synced r') (ranges r'.written) c ↔ ((d : Content) × AgreesOutside (synced r) (ranges r.written) d × (c ≡ laid_over (k, v ∷ []) d))
  crash_poked c = (
    λ a. agrees_back k v (synced r) r.written lt c (subst (λ (q : WriteLog). AgreesOutside (synced q) (ranges q.written) c) anew a),
    λ one. agrees_poked one.0 c one.1 one.2,
  )
