-- A piece of the write log with other bytes.
use Rattle.std.proofs.Common.{◌≡◌, ◌⊎◌, ◌∙◌, inl, inr, ⊎_elim, zero, suc, ℕ, ◌+◌, ◌-◌, ◌<◌, ◌≤◌, List, [], ◌∷◌, length, get_or, set, take, drop, sym, ap, subst, arith, rules, length-drop}
use Rattle.std.proofs.lemmas.{Bool.cases_lt, List.{places, map-set, set-get_or, length-map, length-take-le, ext_get_or}}
use Rattle.disk.specs.Facts.{Content, Torn, sector}
use Rattle.disk.specs.WriteLog.{Piece, laid_over, replay, piece_in, range, ranges, Untouched, AreWithin, range_at}
use Rattle.disk.proofs.Pieces.{length-put, put_low, put_mid, put_high, fits_here, fits_rest, length_replay, length-copied, replay_outside, replay_outside_same}
use Rattle.simdisk.{specs.{Views.{IsLatest, piece, pieces}, declared.patch.Patch.Patch}, proofs.Walks.range_read}

replay_same : (ps : List Piece) (c d : Content) (k : ℕ) → length d ≡ length c → AreWithin (length c) (ranges ps) → sector d k ≡ sector c k → sector (replay ps d) k ≡ sector (replay ps c) k
replay_same ps c d k long fits same = replay_outside_same ps c d k long fits (λ u. same)

-- the sectors that later ranges leave alone
later : (rs : List (ℕ × ℕ)) (r : ℕ × ℕ) (k : ℕ) → ((j : ℕ) → j < length rs → r.0 < (range_at rs j).0 + (range_at rs j).1 → r.0 + r.1 ≤ (range_at rs j).0) → r.0 ≤ k → k < r.0 + r.1 → Untouched rs k
later [] r k apart le lt = tt
later (x ∷ rs) r k apart le lt = (elim (cases_lt r.0 (x.0 + x.1)) [ inl behind ↦ inl (omega (arith, apart 0 (omega arith) behind, lt)) | inr before ↦ inr (omega (arith, before, le)) ], later rs r k (λ j less. apart (suc j) (omega (arith, less))) le lt)

-- a piece that is replaced by one of the same range: outside it nothing changes
pub replaced_outside : (ps : List Piece) (i : ℕ) (new : Piece) (c : Content) (k : ℕ) → i < length ps → AreWithin (length c) (ranges ps) → range_at (ranges ps) i ≡ range new
    → (k < new.0) ⊎ (new.0 + length new.1 ≤ k) → sector (replay (set ps i new) c) k ≡ sector (replay ps c) k
replaced_outside [] i new c k lt fits is out = absurd (omega arith)
replaced_outside (p ∷ ps) zero new c k lt fits is out =
    replay_same ps (laid_over p c) (laid_over new c) k (length-put new.0 new.1 c inside ∙ sym (length-put p.0 p.1 c within)) (subst (λ (n : ℕ). AreWithin n (ranges ps)) (sym (length-put p.0 p.1 c within)) (fits_rest (length c) p ps fits)) here
  where
    within : p.0 + length p.1 ≤ length c
    within = fits_here (length c) p ps fits

    first : p.0 ≡ new.0
    first = ap (λ (r : ℕ × ℕ). r.0) is

    long : length p.1 ≡ length new.1
    long = ap (λ (r : ℕ × ℕ). r.1) is

    inside : new.0 + length new.1 ≤ length c
    inside = omega (arith, within, first, long)

    here : sector (laid_over new c) k ≡ sector (laid_over p c) k
    here = ⊎_elim
        (λ low. put_low new.0 new.1 c inside k low ∙ sym (put_low p.0 p.1 c within k (omega (arith, low, first))))
        (λ high. put_high new.0 new.1 c inside k high ∙ sym (put_high p.0 p.1 c within k (omega (arith, high, first, long)))) out
replaced_outside (p ∷ ps) (suc i) new c k lt fits is out =
    replaced_outside ps i new (laid_over p c) k (omega arith) (subst (λ (n : ℕ). AreWithin n (ranges ps)) (sym (length-put p.0 p.1 c (fits_here (length c) p ps fits))) (fits_rest (length c) p ps fits)) is out

-- and within it, where no later one touches it, its bytes stand
pub replaced_inside : (ps : List Piece) (i : ℕ) (new : Piece) (c : Content) (k : ℕ) → AreWithin (length c) (ranges ps) → IsLatest (ranges ps) i (range new)
    → new.0 ≤ k → k < new.0 + length new.1 → sector (replay (set ps i new) c) k ≡ sector new.1 (k - new.0)
replaced_inside [] i new c k fits last le lt = absurd (omega (arith, last.noted.0))
replaced_inside (p ∷ ps) zero new c k fits last le lt =
    replay_outside ps (laid_over new c) k (subst (λ (n : ℕ). AreWithin n (ranges ps)) (sym (length-put new.0 new.1 c inside)) (fits_rest (length c) p ps fits)) alone
    ∙ put_mid new.0 new.1 c inside k le lt
  where
    inside : new.0 + length new.1 ≤ length c
    inside = omega (arith, fits_here (length c) p ps fits, ap (λ (r : ℕ × ℕ). r.0) last.noted.1, ap (λ (r : ℕ × ℕ). r.1) last.noted.1)

    alone : Untouched (ranges ps) k
    alone = later (ranges ps) (range new) k (λ j less. last.apart (suc j) (omega arith) (omega (arith, less))) le lt
replaced_inside (p ∷ ps) (suc i) new c k fits last le lt =
    replaced_inside ps i new (laid_over p c) k (subst (λ (n : ℕ). AreWithin n (ranges ps)) (sym (length-put p.0 p.1 c (fits_here (length c) p ps fits))) (fits_rest (length c) p ps fits))
    (record { noted = (omega (arith, last.noted.0), last.noted.1); apart = λ j more less. last.apart (suc j) (omega (arith, more)) (omega (arith, less)) }) le lt

-- the last piece of its range, with what stands there in a content that is torn there alone: then that
-- content is what all give
pub replaced_torn : (ps : List Piece) (i first n : ℕ) (c now : Content) → AreWithin (length c) (ranges ps) → IsLatest (ranges ps) i (first, n) → Torn first n (replay ps c) now
    → replay (set ps i (first, take n (drop first now))) c ≡ now
replaced_torn ps i first n c now fits last torn =
    ext_get_or [] (replay (set ps i new) c) now (length_replay (set ps i new) c still ∙ sym long) (λ k lt. elim (cases_lt k first) [
      | inl low ↦ replaced_outside ps i new c k less fits is (inl low) ∙ sym (torn.before k low)
      | inr le ↦ elim (cases_lt k (first + n)) [
        | inl lt ↦ replaced_inside ps i new c k fits (subst (λ (r : ℕ × ℕ). IsLatest (ranges ps) i r) (ap (λ (x : ℕ). (first, x)) (sym size)) last) le (rw size lt) ∙ middle k le lt
        | inr high ↦ replaced_outside ps i new c k less fits is (inr (rw size high)) ∙ sym (torn.after k high)
      ]
    ])
  where
    long : length now ≡ length c
    long = torn.as_long ∙ length_replay ps c fits

    within : first + n ≤ length now
    within = rw long (subst (λ (r : ℕ × ℕ). r.0 + r.1 ≤ length c) last.noted.1 (fits i last.noted.0))

    size : length (take n (drop first now)) ≡ n
    size = length-take-le n (drop first now) (omega (arith, within, length-drop first now))

    new : Piece
    new = (first, take n (drop first now))

    less : i < length ps
    less = omega (arith, last.noted.0, length-map ps range)

    is : range_at (ranges ps) i ≡ range new
    is = last.noted.1 ∙ ap (λ (x : ℕ). (first, x)) (sym size)

    still : AreWithin (length c) (ranges (set ps i new))
    still = subst (λ (rs : List (ℕ × ℕ)). AreWithin (length c) rs) (sym (map-set range ps i new ∙ ap (λ (r : ℕ × ℕ). set (ranges ps) i r) (sym is) ∙ set-get_or (ranges ps) i (0, 0))) fits

    middle : (k : ℕ) → first ≤ k → k < first + n → sector (take n (drop first now)) (k - first) ≡ sector now k
    middle k le lt = search (rules, places)

-- where nothing is lent, nothing changes
pub torn_nothing : (first n : ℕ) (c now : Content) → n ≡ 0 → Torn first n c now → now ≡ c
torn_nothing first n c now none torn = ext_get_or [] now c torn.as_long (λ k lt. elim (cases_lt k first) [
  | inl low ↦ torn.before k low
  | inr le ↦ torn.after k (omega (arith, le, none))
])

pub range_copied : (now : Content) (x new : Patch) → piece new ≡ piece_in now (piece x) → x.first + x.count ≤ length now → range (piece new) ≡ range (piece x)
range_copied now x new is within = ap range is ∙ ap (λ (n : ℕ). (x.first, n)) (length-copied now (piece x) (rw x.long within))

-- the patch at that place, as it stands in that content
pub newest_retaken : (patches : List Patch) (i : ℕ) (x new : Patch) (first n : ℕ) (s now : Content) → i < length patches → x ≡ get_or patches i x → AreWithin (length s) (ranges (pieces patches))
    → IsLatest (ranges (pieces patches)) i (first, n) → piece new ≡ piece_in now (piece x) → Torn first n (replay (pieces patches) s) now → replay (pieces (set patches i new)) s ≡ now
newest_retaken patches i x new first n s now lt is fits last changed torn = ap (λ (ps : List Piece). replay ps s) set_is ∙ replaced_torn (pieces patches) i first n s now fits last torn
  where
    at : range (piece x) ≡ (first, n)
    at = range_read patches i x (first, n) lt is last.noted.1

    set_is : pieces (set patches i new) ≡ set (pieces patches) i (first, take n (drop first now))
    set_is = map-set piece patches i new ∙ ap (λ (p : Piece). set (pieces patches) i p) (changed ∙ ap (λ (r : ℕ × ℕ). (r.0, take r.1 (drop r.0 now))) at)
