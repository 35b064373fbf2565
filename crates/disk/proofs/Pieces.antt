-- Pieces laid over a content.
use Rattle.std.proofs.Common.{◌≡◌, ◌∙◌, inl, inr, refl, ℕ, ◌+◌, ◌-◌, ◌<◌, ◌≤◌, suc, List, [], ◌∷◌, ◌++◌, length, get_or, take, drop, map, sym, ap, subst, arith, rules, length-append, length-drop}
use Rattle.std.proofs.{Math.ListN.get_or-map, lemmas.Bool.cases_lt}
use Rattle.std.proofs.lemmas.List.{places, get_or_append_left, get_or_push, ext_get_or, length-map, length-replicate, length-take-le}
use Rattle.disk.specs.Facts.{Content, sector}
use Rattle.disk.specs.WriteLog.{Piece, laid_over, replay, synced_after, range, ranges, Untouched, AgreesOutside, AreWithin, piece_in, filled}

module _ (first : ℕ) (s c : Content) (within : first + length s ≤ length c) where
  pub length-put : length (laid_over (first, s) c) ≡ length c
  length-put = search (rules, places)

  pub put_low : (k : ℕ) → k < first → sector (laid_over (first, s) c) k ≡ sector c k
  put_low k low = search (rules, places)

  pub put_mid : (k : ℕ) → first ≤ k → k < first + length s → sector (laid_over (first, s) c) k ≡ sector s (k - first)
  put_mid k le lt = search (rules, places)

  pub put_high : (k : ℕ) → first + length s ≤ k → sector (laid_over (first, s) c) k ≡ sector c k
  put_high k high = search (rules, places)

-- what stands in a range, laid over it
pub put_same : (first n : ℕ) (c : Content) → first + n ≤ length c → laid_over (first, take n (drop first c)) c ≡ c
put_same first n c within = ext_get_or [] (laid_over (first, take n (drop first c)) c) c (length-put first (take n (drop first c)) c inside) (λ k lt. elim (cases_lt k first) [
  | inl low ↦ put_low first (take n (drop first c)) c inside k low
  | inr le ↦ elim (cases_lt k (first + n)) [
    | inl less ↦ put_mid first (take n (drop first c)) c inside k le (rw size less) ∙ middle k le less
    | inr high ↦ put_high first (take n (drop first c)) c inside k (rw size high)
  ]
])
  where
    size : length (take n (drop first c)) ≡ n
    size = length-take-le n (drop first c) (omega (arith, within, length-drop first c))

    inside : first + length (take n (drop first c)) ≤ length c
    inside = rw size within

    middle : (k : ℕ) → first ≤ k → k < first + n → sector (take n (drop first c)) (k - first) ≡ sector c k
    middle k le less = search (rules, places)

-- a piece more
pub replay_push : (ps : List Piece) (p : Piece) (c : Content) → replay (ps ++ p ∷ []) c ≡ laid_over p (replay ps c)
replay_push [] p c = refl
replay_push (q ∷ ps) p c = replay_push ps p (laid_over q c)

pub fits_here : (n : ℕ) (p : Piece) (ps : List Piece) → AreWithin n (ranges (p ∷ ps)) → p.0 + length p.1 ≤ n
fits_here n p ps fits = fits 0 (omega arith)

pub fits_rest : (n : ℕ) (p : Piece) (ps : List Piece) → AreWithin n (ranges (p ∷ ps)) → AreWithin n (ranges ps)
fits_rest n p ps fits i lt = fits (suc i) (omega arith)

-- what is laid over a content leaves the rest of it
pub length_replay : (ps : List Piece) (c : Content) → AreWithin (length c) (ranges ps) → length (replay ps c) ≡ length c
length_replay [] c fits = refl
length_replay (p ∷ ps) c fits =
    let here = length-put p.0 p.1 c (fits_here (length c) p ps fits) in
    length_replay ps (laid_over p c) (rw here (fits_rest (length c) p ps fits)) ∙ here

pub replay_outside : (ps : List Piece) (c : Content) (k : ℕ) → AreWithin (length c) (ranges ps) → Untouched (ranges ps) k → sector (replay ps c) k ≡ sector c k
replay_outside [] c k fits u = refl
replay_outside (p ∷ ps) c k fits u =
    let within = fits_here (length c) p ps fits in
    let here = length-put p.0 p.1 c within in
    replay_outside ps (laid_over p c) k (rw here (fits_rest (length c) p ps fits)) u.1 ∙ elim u.0 [ inl low ↦ put_low p.0 p.1 c within k low | inr high ↦ put_high p.0 p.1 c within k high ]

-- two contents with the same in a sector, if it is outside of these pieces, have the same there after them
pub replay_outside_same : (ps : List Piece) (c d : Content) (k : ℕ) → length d ≡ length c → AreWithin (length c) (ranges ps) → (Untouched (ranges ps) k → sector d k ≡ sector c k)
    → sector (replay ps d) k ≡ sector (replay ps c) k
replay_outside_same [] c d k long fits same = same tt
replay_outside_same (p ∷ ps) c d k long fits same =
    replay_outside_same ps (laid_over p c) (laid_over p d) k (length-put p.0 p.1 d inside ∙ long ∙ sym (length-put p.0 p.1 c within))
    (subst (λ (n : ℕ). AreWithin n (ranges ps)) (sym (length-put p.0 p.1 c within)) (fits_rest (length c) p ps fits)) here
  where
    within : p.0 + length p.1 ≤ length c
    within = fits_here (length c) p ps fits

    inside : p.0 + length p.1 ≤ length d
    inside = omega (arith, within, long)

    here : Untouched (ranges ps) k → sector (laid_over p d) k ≡ sector (laid_over p c) k
    here u = elim (cases_lt k p.0) [
      | inl low ↦ put_low p.0 p.1 d inside k low ∙ same (inl low, u) ∙ sym (put_low p.0 p.1 c within k low)
      | inr le ↦ elim (cases_lt k (p.0 + length p.1)) [
        | inl lt ↦ put_mid p.0 p.1 d inside k le lt ∙ sym (put_mid p.0 p.1 c within k le lt)
        | inr high ↦ put_high p.0 p.1 d inside k high ∙ same (inr high, u) ∙ sym (put_high p.0 p.1 c within k high)
      ]
    ]

pub agrees_replay : (ps : List Piece) (stood : Content) → AreWithin (length stood) (ranges ps) → AgreesOutside stood (ranges ps) (replay ps stood)
agrees_replay ps stood fits = record { as_long = length_replay ps stood fits; same = λ k u. replay_outside ps stood k fits u }

-- to fill or copy a piece leaves its range
pub ranges_filled : (bytes : List ℕ) (ps : List Piece) → ranges (map (filled bytes) ps) ≡ ranges ps
ranges_filled bytes [] = refl
ranges_filled bytes (p ∷ ps) =
    ap (λ (n : ℕ). (p.0, n) ∷ ranges (map (filled bytes) ps)) (length-replicate (length p.1) bytes) ∙ ap (λ (rs : List (ℕ × ℕ)). (p.0, length p.1) ∷ rs) (ranges_filled bytes ps)

pub length-copied : (now : Content) (p : Piece) → p.0 + length p.1 ≤ length now → length (piece_in now p).1 ≡ length p.1
length-copied now p within = length-take-le (length p.1) (drop p.0 now) (omega (arith, within, length-drop p.0 now))

pub ranges_copied : (now : Content) (ps : List Piece) → AreWithin (length now) (ranges ps) → ranges (map (piece_in now) ps) ≡ ranges ps
ranges_copied now [] fits = refl
ranges_copied now (p ∷ ps) fits =
    ap (λ (n : ℕ). (p.0, n) ∷ ranges (map (piece_in now) ps)) (length-copied now p (fits_here (length now) p ps fits))
    ∙ ap (λ (rs : List (ℕ × ℕ)). (p.0, length p.1) ∷ rs) (ranges_copied now ps (fits_rest (length now) p ps fits))

-- pieces as they stand in a content, laid over one that is the same outside them, give that content
copied_onto : (now : Content) (ps : List Piece) (c : Content) → length c ≡ length now → AreWithin (length now) (ranges ps) → ((k : ℕ) → Untouched (ranges ps) k → sector c k ≡ sector now k)
    → replay (map (piece_in now) ps) c ≡ now
copied_onto now [] c long fits same = ext_get_or [] c now long (λ k lt. same k tt)
copied_onto now (p ∷ ps) c long fits same = copied_onto now ps (laid_over q c) (length-put q.0 q.1 c within ∙ long) (fits_rest (length now) p ps fits) (λ k u. here k u)
  where
    q : Piece
    q = piece_in now p

    inside : p.0 + length p.1 ≤ length now
    inside = fits_here (length now) p ps fits

    size : length q.1 ≡ length p.1
    size = length-copied now p inside

    within : q.0 + length q.1 ≤ length c
    within = rw (size, long) inside

    here : (k : ℕ) → Untouched (ranges ps) k → sector (laid_over q c) k ≡ sector now k
    here k u = elim (cases_lt k p.0) [
      | inl low ↦ put_low q.0 q.1 c within k low ∙ same k (inl low, u)
      | inr le ↦ elim (cases_lt k (p.0 + length p.1)) [
        | inl lt ↦ put_mid q.0 q.1 c within k le (rw size lt) ∙ middle k le lt
        | inr high ↦ put_high q.0 q.1 c within k (rw size high) ∙ same k (inr high, u)
      ]
    ]
      where
        middle : (k : ℕ) → p.0 ≤ k → k < p.0 + length p.1 → sector q.1 (k - p.0) ≡ sector now k
        middle k le lt = search (rules, places)

pub replay_copied : (stood now : Content) (ps : List Piece) → AgreesOutside stood (ranges ps) now → AreWithin (length stood) (ranges ps) → replay (map (piece_in now) ps) stood ≡ now
replay_copied stood now ps agrees fits = copied_onto now ps stood (sym agrees.as_long) (rw agrees.as_long fits) (λ k u. sym (agrees.same k u))

-- a range more
pub fits_push : (n : ℕ) (ps : List Piece) (p : Piece) → AreWithin n (ranges ps) → p.0 + length p.1 ≤ n → AreWithin n (ranges (ps ++ p ∷ []))
fits_push n ps p fits within i lt = elim (cases_lt i (length ps)) [
  | inl less ↦ subst (λ (r : ℕ × ℕ). r.0 + r.1 ≤ n) (sym (at i (get_or_append_left ps (p ∷ []) (0, []) i less))) (fits i (omega (arith, less, length-map ps range)))
  | inr more ↦ subst (λ (r : ℕ × ℕ). r.0 + r.1 ≤ n) (sym (last (omega (arith, more, lt, length-map (ps ++ p ∷ []) range, length-append ps (p ∷ []))))) within
]
  where
    at : (j : ℕ) → get_or (ps ++ p ∷ []) j (0, []) ≡ get_or ps j (0, []) → get_or (ranges (ps ++ p ∷ [])) j (0, 0) ≡ get_or (ranges ps) j (0, 0)
    at j same = get_or-map range (ps ++ p ∷ []) j (0, []) ∙ ap range same ∙ sym (get_or-map range ps j (0, []))

    last : length ps ≡ i → get_or (ranges (ps ++ p ∷ [])) i (0, 0) ≡ range p
    last is = get_or-map range (ps ++ p ∷ []) i (0, []) ∙ ap range (get_or_push ps p (0, []) i is)

-- a sync more
pub synced_push : (past : List (List Piece)) (epoch : List Piece) (c : Content) → synced_after (past ++ epoch ∷ []) c ≡ replay epoch (synced_after past c)
synced_push [] epoch c = refl
synced_push (e ∷ past) epoch c = synced_push past epoch (replay e c)
