-- What a piece more in the write log leaves of what a disk in memory keeps.
use Rattle.std.proofs.Common.{◌≡◌, ◌⊎◌, inl, inr, ⊎_elim, refl, ◌∙◌, ℕ, take, drop, subst, length-drop, ◌+◌, ◌*◌, ◌<◌, ◌≤◌, List, [], ◌∷◌, ◌++◌, length, get_or, map, replicate, set, sym, ap, arith, length-append}
use Rattle.std.proofs.{Math.{ListN.get_or-map, Nat.zero-mul}, lemmas.Bool.cases_lt}
use Rattle.std.proofs.lemmas.List.{map-append, map-set, set-get_or, get_or_append_left, get_or_push, length-take-le}
use Rattle.disk.specs.Facts.{Content, Lent, Torn, Apart, IsFresh, nothing, sector}
use Rattle.disk.specs.WriteLog.{Piece, WriteLog, laid_over, newest, synced, range, ranges, more_written, more_synced, lent_piece, new_log, replay, filled, sim_facts, Untouched, AgreesOutside, AreWithin}
use Rattle.disk.proofs.Pieces.{agrees_replay, ranges_filled, replay_push, put_same}
use Rattle.disk.proofs.Ranges.{durable, agrees_all, untouched_at, agrees_torn}
use Rattle.simdisk.specs.{declared.{patch.Patch.Patch, fill.Fill.Fill}, Views.{piece, pieces, alternating, left_by_fill, Noted, IsLatest}}
use Rattle.simdisk.{specs.declared.fill.Fill.TheVariants.{Byte, Alternating, Old, New}, proofs.Walks.read_piece}

pub ranges_written : (r r' : WriteLog) (p : Piece) → r' ≡ more_written p r → ranges r'.written ≡ ranges r.written ++ range p ∷ []
ranges_written r r' p more = ap (λ (q : WriteLog). ranges q.written) more ∙ map-append range r.written (p ∷ [])

-- what was written last, with a piece more
pub newest_more : (r r' : WriteLog) (p : Piece) (now new : Content) → r' ≡ more_written p r → newest r ≡ now → new ≡ laid_over p now → newest r' ≡ new
newest_more r r' p now new more is laid = ap (λ (q : WriteLog). newest q) more ∙ replay_push r.written p (synced r) ∙ ap (λ (c : Content). laid_over p c) is ∙ sym laid

-- and after a sync: what stands
pub newest_synced : (l : Lent) (r r' : WriteLog) (now : Content) → r' ≡ more_synced now (lent_piece l now ∷ []) r → synced r' ≡ now → l.first + l.lanes * l.each ≤ length now → newest r' ≡ now
newest_synced l r r' now more is within =
    ap (λ (q : WriteLog). replay q.written (synced r')) more ∙ ap (λ (c : Content). laid_over (lent_piece l now) c) is ∙ put_same l.first (l.lanes * l.each) now within

-- a range more, which leaves the one at that place alone
pub last_push : (rs : List (ℕ × ℕ)) (x r : ℕ × ℕ) (i : ℕ) → (x.0 + x.1 ≤ r.0) ⊎ (r.0 + r.1 ≤ x.0) → IsLatest rs i r → IsLatest (rs ++ x ∷ []) i r
last_push rs x r i out last = record {
  noted = (omega (arith, last.noted.0, length-append rs (x ∷ [])), get_or_append_left rs (x ∷ []) (0, 0) i last.noted.0 ∙ last.noted.1);
  apart = λ j more lt. elim (cases_lt j (length rs)) [
    | inl less ↦ subst (λ (y : ℕ × ℕ). r.0 < y.0 + y.1 → r.0 + r.1 ≤ y.0) (sym (get_or_append_left rs (x ∷ []) (0, 0) j less)) (last.apart j more less)
    | inr le ↦ subst (λ (y : ℕ × ℕ). r.0 < y.0 + y.1 → r.0 + r.1 ≤ y.0) (sym (get_or_push rs x (0, 0) j (omega (arith, le, lt, length-append rs (x ∷ []))))) (λ behind. ⊎_elim (λ low. absurd (omega (arith, low, behind))) (λ high. high) out)
  ];
}

pub last_last : (rs : List (ℕ × ℕ)) (r : ℕ × ℕ) (i : ℕ) → length rs ≡ i → IsLatest (rs ++ r ∷ []) i r
last_last rs r i is = record {
  noted = (omega (arith, is, length-append rs (r ∷ [])), get_or_push rs r (0, 0) i is);
  apart = λ j more lt. absurd (omega (arith, is, more, lt, length-append rs (r ∷ [])));
}

-- what may be written while sectors are lent
pub apart_lent : (l : Lent) (first n : ℕ) → 0 < l.lanes → Apart first n l → (first + n ≤ l.first) ⊎ (l.first + l.lanes * l.each ≤ first)
apart_lent l first n some (inl none) = absurd (omega (arith, some, none))
apart_lent l first n some (inr out) = out

-- a patch that keeps its range
pub ranges_set : (patches : List Patch) (i : ℕ) (x new : Patch) → i < length patches → x ≡ get_or patches i x → range (piece new) ≡ range (piece x) → ranges (pieces (set patches i new)) ≡ ranges (pieces patches)
ranges_set patches i x new lt is same =
    ap ranges (map-set piece patches i new) ∙ map-set range (pieces patches) i (piece new)
    ∙ ap (λ (r : ℕ × ℕ). set (ranges (pieces patches)) i r) (same ∙ sym at) ∙ set-get_or (ranges (pieces patches)) i (range (piece x))
  where
    at : get_or (ranges (pieces patches)) i (range (piece x)) ≡ range (piece x)
    at = get_or-map range (pieces patches) i (piece x) ∙ ap range (read_piece patches i x lt is (piece x))

-- what is lent, as a range
pub range_lent : (l : Lent) (c : Content) → l.first + l.lanes * l.each ≤ length c → range (lent_piece l c) ≡ (l.first, l.lanes * l.each)
range_lent l c within = ap (λ (n : ℕ). (l.first, n)) (length-take-le (l.lanes * l.each) (drop l.first c) (omega (arith, within, length-drop l.first c)))

-- where nothing is lent, a sync leaves no more than the content
pub durable_then : (l : Lent) (now c : Content) (r r' : WriteLog) (stood' : Content) → r' ≡ more_synced now (lent_piece l now ∷ []) r → stood' ≡ now → l.lanes ≡ 0 → AgreesOutside stood' (ranges r'.written) c → c ≡ now
durable_then l now c r r' stood' more is none a =
    durable l.first (length (lent_piece l now).1) now c empty (subst (λ (s : Content). AgreesOutside s (ranges (lent_piece l now ∷ [])) c) is (subst (λ (q : WriteLog). AgreesOutside stood' (ranges q.written) c) more a))
  where
    zero_each : l.lanes * l.each ≡ 0
    zero_each = ap (λ (n : ℕ). n * l.each) none ∙ zero-mul l.each

    empty : length (take (l.lanes * l.each) (drop l.first now)) ≡ 0
    empty = ap (λ (n : ℕ). length (take n (drop l.first now))) zero_each

-- what is lent was written before the sync
pub lent_fewer : (l : Lent) (now : Content) (rs : List (ℕ × ℕ)) (i : ℕ) → l.first + l.lanes * l.each ≤ length now → (0 < l.lanes → Noted rs i (l.first, l.lanes * l.each))
    → (k : ℕ) → Untouched rs k → Untouched (ranges (lent_piece l now ∷ [])) k
lent_fewer l now rs i within noted k u = elim (cases_lt 0 l.lanes) [
  | inl some ↦ (subst (λ (r : ℕ × ℕ). (k < r.0) ⊎ (r.0 + r.1 ≤ k)) (sym (range_lent l now within)) (untouched_at rs i (l.first, l.lanes * l.each) k (noted some).0 (noted some).1 u), tt)
  | inr none ↦ (subst (λ (r : ℕ × ℕ). (k < r.0) ⊎ (r.0 + r.1 ≤ k)) (sym (range_lent l now within)) (outside (zero_each none)), tt)
]
  where
    zero_each : l.lanes ≤ 0 → l.lanes * l.each ≡ 0
    zero_each none = let is : l.lanes ≡ 0 = omega arith in ap (λ (n : ℕ). n * l.each) is ∙ zero-mul l.each

    outside : l.lanes * l.each ≡ 0 → (k < l.first) ⊎ (l.first + l.lanes * l.each ≤ k)
    outside zero = elim (cases_lt k l.first) [ inl low ↦ inl low | inr le ↦ inr (omega (arith, le, zero)) ]

-- what a join brings back is torn where the log has it as written
pub agrees_join : (l : Lent) (stood : Content) (rs : List (ℕ × ℕ)) (i : ℕ) (now new : Content) → (0 < l.lanes → Noted rs i (l.first, l.lanes * l.each)) → AgreesOutside stood rs now → Torn l.first (l.lanes * l.each) now new
    → AgreesOutside stood rs new
agrees_join l stood rs i now new noted a torn = elim (cases_lt 0 l.lanes) [
  | inl some ↦ agrees_torn stood rs i (l.first, l.lanes * l.each) now new (noted some).0 (noted some).1 a torn
  | inr none ↦ record { as_long = torn.as_long ∙ a.as_long; same = λ k u. same none k ∙ a.same k u }
]
  where
    zero_each : l.lanes ≤ 0 → l.lanes * l.each ≡ 0
    zero_each none = let is : l.lanes ≡ 0 = omega arith in ap (λ (n : ℕ). n * l.each) is ∙ zero-mul l.each

    same : l.lanes ≤ 0 → (k : ℕ) → sector new k ≡ sector now k
    same none k = elim (cases_lt k l.first) [ inl low ↦ torn.before k low | inr le ↦ torn.after k (omega (arith, le, zero_each none)) ]

-- what is lent is written
pub lent_written : (l : Lent) (rs : List (ℕ × ℕ)) (i : ℕ) → (0 < l.lanes → Noted rs i (l.first, l.lanes * l.each)) → (k : ℕ) → l.first ≤ k → k < l.first + l.lanes * l.each → Untouched rs k → ⊥
lent_written l rs i noted k le lt u = elim (cases_lt 0 l.lanes) [
  | inl some ↦ ⊎_elim (λ low. absurd (omega arith)) (λ high. absurd (omega arith)) (untouched_at rs i (l.first, l.lanes * l.each) k (noted some).0 (noted some).1 u)
  | inr none ↦ absurd (omega (arith, le, lt, zero_each none))
]
  where
    zero_each : l.lanes ≤ 0 → l.lanes * l.each ≡ 0
    zero_each none = let is : l.lanes ≡ 0 = omega arith in ap (λ (n : ℕ). n * l.each) is ∙ zero-mul l.each

-- a disk that begins with that content
pub fresh_of : (now stood : Content) (r : WriteLog) (f i : ℕ) (l : Lent) → r ≡ new_log now → stood ≡ now → l ≡ nothing → IsFresh now (sim_facts now stood r f i l)
fresh_of now stood r f i l begun is none = record {
  reads = refl;
  durable = λ c a. agrees_all now c (subst (λ (s : Content). AgreesOutside s [] c) is (subst (λ (q : WriteLog). AgreesOutside stood (ranges q.written) c) begun a));
  none_out = none;
}

-- each fill is one that a crash may leave
filled_agrees : (bytes : List ℕ) (stood : Content) (ps : List Piece) → AreWithin (length stood) (ranges ps) → AgreesOutside stood (ranges ps) (replay (map (filled bytes) ps) stood)
filled_agrees bytes stood ps fits =
    let same = ranges_filled bytes ps in
    subst (λ (rs : List (ℕ × ℕ)). AgreesOutside stood rs (replay (map (filled bytes) ps) stood)) same (agrees_replay (map (filled bytes) ps) stood (subst (λ (rs : List (ℕ × ℕ)). AreWithin (length stood) rs) (sym same) fits))

pub left_agrees : (fill : Fill) (stood : Content) (ps : List Piece) → AreWithin (length stood) (ranges ps) → AgreesOutside stood (ranges ps) (left_by_fill fill stood ps)
left_agrees (Byte byte) stood ps fits = filled_agrees (replicate 512 byte) stood ps fits
left_agrees Alternating stood ps fits = filled_agrees alternating stood ps fits
left_agrees Old stood ps fits = record { as_long = refl; same = λ k u. refl }
left_agrees New stood ps fits = agrees_replay ps stood fits
