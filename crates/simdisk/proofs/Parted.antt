-- Pieces without a sector.
use Rattle.std.proofs.Common.{◌≡◌, ◌⊎◌, ◌∙◌, ◌||◌, inl, inr, zero, suc, ℕ, ◌+◌, ◌-◌, ◌<◌, ◌≤◌, Bool, nat_lt, nat_le, List, [], ◌∷◌, ◌++◌, length, take, drop, get_or, sym, ap, subst, arith, length-drop}
use Rattle.std.proofs.{Math.Bool.{true-or, false-or, or-true}, lemmas.List.{length-take-le, length-map, take_more, flat_map_more}}
use Rattle.std.{proofs.lemmas.Bool.{cases_lt, cond-true, cond-false, lt-ltb, le-ltb, le-leb, lt-leb}, specs.List.flat_map}
use Rattle.simdisk.specs.{declared.patch.Patch.Patch, Views.{piece, pieces}, Pokes.{misses, part_before, part_behind, parted}}
use Rattle.simdisk.proofs.Walks.{read_piece}
use Rattle.disk.{specs.WriteLog.{Piece, ranges, Untouched, AreWithin}, proofs.Pieces.{fits_here, fits_rest}}

-- the sector is not in the piece
abbrev pub Outside : ℕ → Piece → Type 0
Outside j p = (j < p.0) ⊎ (p.0 + length p.1 ≤ j)

pub where_is : (j : ℕ) (p : Piece) → Outside j p ⊎ ((p.0 ≤ j) × (j < p.0 + length p.1))
where_is j p = elim (cases_lt j p.0) [
  | inl low ↦ inl (inl low)
  | inr le ↦ elim (cases_lt j (p.0 + length p.1)) [ inl less ↦ inr (le, less) | inr high ↦ inl (inr high) ]
]

module _ (k : ℕ) (p : Piece) where
  pub parted_out : Outside k p → parted k p ≡ p ∷ []
  parted_out out = cond-true (misses k p) (p ∷ []) (part_before k p ∷ part_behind k p ∷ []) (elim out [
    | inl low ↦ ap (λ (b : Bool). b || nat_le (length p.1) (k - p.0)) (lt-ltb k p.0 low) ∙ true-or (nat_le (length p.1) (k - p.0))
    | inr high ↦ ap (λ (b : Bool). nat_lt k p.0 || b) (le-leb (length p.1) (k - p.0) (omega (arith, high))) ∙ or-true (nat_lt k p.0)
  ])

  pub parted_in : p.0 ≤ k → k < p.0 + length p.1 → parted k p ≡ part_before k p ∷ part_behind k p ∷ []
  parted_in le less = cond-false (misses k p) (p ∷ []) (part_before k p ∷ part_behind k p ∷ [])
      (ap (λ (b : Bool). b || nat_le (length p.1) (k - p.0)) (le-ltb k p.0 le) ∙ false-or (nat_le (length p.1) (k - p.0)) ∙ lt-leb (length p.1) (k - p.0) (omega (arith, le, less)))

  -- what holds of the parts, by where the sector is
  pub parted_by : (P : List Piece → Type 0) → (Outside k p → P (p ∷ [])) → (p.0 ≤ k → k < p.0 + length p.1 → P (part_before k p ∷ part_behind k p ∷ [])) → P (parted k p)
  parted_by P out inside = elim (where_is k p) [
    | inl o ↦ subst P (sym (parted_out o)) (out o)
    | inr i ↦ subst P (sym (parted_in i.0 i.1)) (inside i.0 i.1)
  ]

  module _ (le : p.0 ≤ k) (less : k < p.0 + length p.1) where
    pub long_before : length (take (k - p.0) p.1) ≡ k - p.0
    long_before = length-take-le (k - p.0) p.1 (omega (arith, le, less))

    pub long_behind : k + 1 + length (drop (k - p.0 + 1) p.1) ≡ p.0 + length p.1
    long_behind = omega (arith, le, less, length-drop (k - p.0 + 1) p.1)

    -- another sector is in one of the parts where it is in the piece
    in_none : (j : ℕ) → (j ≡ k → ⊥) → Outside j (part_before k p) → Outside j (part_behind k p) → Outside j p
    in_none j other (inl low) y = inl low
    in_none j other (inr past) (inl low) = absurd (other (omega (arith, past, low, long_before, le)))
    in_none j other (inr past) (inr over) = inr (omega (arith, over, long_behind))

    pub out_before : (j : ℕ) → Outside j p → Outside j (part_before k p)
    out_before j (inl low) = inl low
    out_before j (inr past) = inr (omega (arith, past, long_before, le, less))

    pub out_behind : (j : ℕ) → Outside j p → Outside j (part_behind k p)
    out_behind j (inl low) = inl (omega (arith, low, le))
    out_behind j (inr past) = inr (omega (arith, past, long_behind))

    pub own_before : Outside k (part_before k p)
    own_before = inr (omega (arith, long_before, le))

    pub own_behind : Outside k (part_behind k p)
    own_behind = inl (omega arith)

-- another sector is touched by the parts where it is by the pieces
pub untouched_by : (k : ℕ) (ps : List Piece) (j : ℕ) → (j ≡ k → ⊥) → Untouched (ranges (flat_map (parted k) ps)) j → Untouched (ranges ps) j
untouched_by k [] j other u = tt
untouched_by k (p ∷ ps) j other u =
    parted_by k p (λ (qs : List Piece). Untouched (ranges (qs ++ flat_map (parted k) ps)) j → Untouched (ranges (p ∷ ps)) j)
    (λ out w. (w.0, untouched_by k ps j other w.1))
    (λ le less w. (in_none k p le less j other w.0 w.1.0, untouched_by k ps j other w.1.1)) u

pub parts_untouched : (k : ℕ) (ps : List Piece) (j : ℕ) → Untouched (ranges ps) j → Untouched (ranges (flat_map (parted k) ps)) j
parts_untouched k [] j u = tt
parts_untouched k (p ∷ ps) j u =
    parted_by k p (λ (qs : List Piece). Untouched (ranges (qs ++ flat_map (parted k) ps)) j)
    (λ out. (u.0, parts_untouched k ps j u.1))
    (λ le less. (out_before k p le less j u.0, (out_behind k p le less j u.0, parts_untouched k ps j u.1)))

-- and that one by none
pub own_untouched : (k : ℕ) (ps : List Piece) → Untouched (ranges (flat_map (parted k) ps)) k
own_untouched k [] = tt
own_untouched k (p ∷ ps) =
    parted_by k p (λ (qs : List Piece). Untouched (ranges (qs ++ flat_map (parted k) ps)) k)
    (λ out. (out, own_untouched k ps))
    (λ le less. (own_before k p le less, (own_behind k p le less, own_untouched k ps)))

fits_cons : (n : ℕ) (p : Piece) (ps : List Piece) → p.0 + length p.1 ≤ n → AreWithin n (ranges ps) → AreWithin n (ranges (p ∷ ps))
fits_cons n p ps here rest zero less = here
fits_cons n p ps here rest (suc i) less = rest i (omega arith)

pub fits_parted : (n k : ℕ) (ps : List Piece) → AreWithin n (ranges ps) → AreWithin n (ranges (flat_map (parted k) ps))
fits_parted n k [] fits = fits
fits_parted n k (p ∷ ps) fits =
    let here : p.0 + length p.1 ≤ n = fits_here n p ps fits in
    let rest : AreWithin n (ranges (flat_map (parted k) ps)) = fits_parted n k ps (fits_rest n p ps fits) in
    parted_by k p (λ (qs : List Piece). AreWithin n (ranges (qs ++ flat_map (parted k) ps)))
    (λ out. fits_cons n p (flat_map (parted k) ps) here rest)
    (λ le less. fits_cons n (part_before k p) (part_behind k p ∷ flat_map (parted k) ps) (omega (arith, here, long_before k p le less, le, less))
    (fits_cons n (part_behind k p) (flat_map (parted k) ps) (omega (arith, here, long_behind k p le less)) rest))

-- the parts of the patches that a loop has come by
pub parts_more : (k : ℕ) (patches : List Patch) (i : ℕ) (x : Patch) (so_far new : List Piece) → i < length patches → x ≡ get_or patches i x → so_far ≡ flat_map (parted k) (take i (pieces patches)) → new ≡ so_far ++ parted k (piece x)
    → new ≡ flat_map (parted k) (take (i + 1) (pieces patches))
parts_more k patches i x so_far new lt is done more =
    more ∙ ap (λ (qs : List Piece). qs ++ parted k (piece x)) done ∙ flat_map_more (parted k) [] (take i (pieces patches)) (piece x)
    ∙ ap (λ (ps : List Piece). flat_map (parted k) ps) (sym (take_more (pieces patches) i (piece x) (omega (arith, lt, length-map patches piece)) ∙ ap (λ (p : Piece). take i (pieces patches) ++ p ∷ []) (read_piece patches i x lt is (piece x))))
