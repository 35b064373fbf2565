-- A cache over its device.
use Rattle.std.proofs.Common.{◌≡◌, ◌⊎◌, ◌∙◌, inl, inr, ⊎_elim, refl, sym, ap, subst, zero, suc, ℕ, ◌+◌, ◌-◌, ◌<◌, ◌≤◌, List, [], ◌∷◌, ◌++◌, length, get_or, set, take, arith, Ok, Err}
use Rattle.std.proofs.lemmas.{Grind.get_or-set_at, List.{get_or-set_other, length-set, map-append, ext_get_or, take_more}}
use Rattle.std.proofs.lemmas.Bool.{cases_lt, cases_eq}
use Rattle.disk.specs.{FaultState.{FaultState, Cause}, Calls.MakesCalls, Moments.passes_then}
use Rattle.disk.specs.Facts.{Content, Facts, Passes, Torn, Written, AreSectorsAt, sector}
use Rattle.disk.specs.WriteLog.{Piece, WriteLog, AreWithin, Untouched, laid_over, more_written, ranges, replay}
use Rattle.disk.proofs.Pieces.{put_low, put_mid, put_high, replay_push, length_replay, replay_outside_same, fits_push, fits_here, fits_rest}
use Rattle.simdisk.{specs.{Kept.IsKept, CacheLaws.covered}, proofs.Kept.{agrees_then, kept_on, kept_more, untouched_more, written_laid}}
use Rattle.simdisk.specs.{declared.waiting.Waiting.Waiting, Cached.{piece_of, pieces_of, shown, Waits, ButIn, IsCached, HandsOn, HandedOn}}

waits_push : (ws : List Waiting) (w : Waiting) (k : ℕ) → Waits (ws ++ w ∷ []) k → Waits ws k ⊎ (w.number ≡ k)
waits_push [] w k (inl here) = inr here
waits_push [] w k (inr none) = absurd none
waits_push (x ∷ ws) w k (inl here) = inl (inl here)
waits_push (x ∷ ws) w k (inr there) = ⊎_elim (λ before. inl (inr before)) (λ last. inr last) (waits_push ws w k there)

pub but_covered : (ws : List Waiting) (log : WriteLog) (a : Facts) (x y : Content) → IsCached ws log a → ButIn (ranges (pieces_of ws)) x y → ButIn (ranges log.written) x y
but_covered ws log a x y cached but = record { as_long = but.as_long; same = λ k u. but.same k (covered ws log cached.waits k u) }

-- ---- what a call of the device leaves of it
pub cached_on : (ws : List Waiting) (log : WriteLog) (a b : Facts) (step : Content → Content → Type 0) → IsCached ws log a → Passes a b step
    → ((x y : Content) → step x y → ButIn (ranges log.written) x y) → ButIn (ranges log.written) a.content b.content → b.lent ≡ a.lent → IsCached ws log b
cached_on ws log a b step cached passes steps but same = record {
  kept = kept_on log a b step cached.kept passes steps but same;
  fits = subst (λ (n : ℕ). AreWithin n (ranges (pieces_of ws))) (sym but.as_long) cached.fits;
  waits = cached.waits;
}

-- nothing waits any more
pub cached_none : (log : WriteLog) (a : Facts) → IsKept log a → IsCached [] log a
cached_none log a kept = record { kept = kept; fits = λ i lt. absurd (omega (arith, lt)); waits = λ k waits u. waits }

-- a write more is in the log
pub cached_more : (ws : List Waiting) (log log' : WriteLog) (p : Piece) (a : Facts) → IsCached ws log a → log' ≡ more_written p log → p.0 + length p.1 ≤ length a.content → IsCached ws log' a
cached_more ws log log' p a cached more within = record {
  kept = kept_more log log' p a cached.kept more within;
  fits = cached.fits;
  waits = λ k waits u. cached.waits k waits (untouched_more log log' p k more u).0;
}

-- a sector more waits, which was just written
pub cached_waits : (ws : List Waiting) (w : Waiting) (log log' : WriteLog) (a : Facts) → IsCached ws log a → log' ≡ more_written (piece_of w) log → w.number + 1 ≤ length a.content → IsCached (ws ++ w ∷ []) log' a
cached_waits ws w log log' a cached more within =
    let noted = cached_more ws log log' (piece_of w) a cached more within in record {
      kept = noted.kept;
      fits = subst (λ (ps : List Piece). AreWithin (length a.content) (ranges ps)) (sym (map-append piece_of ws (w ∷ []))) (fits_push (length a.content) (pieces_of ws) (piece_of w) cached.fits within);
      waits = λ k waits u. ⊎_elim (λ (before : Waits ws k). noted.waits k before u) (λ is. outside k is (untouched_more log log' (piece_of w) k more u).1) (waits_push ws w k waits);
    }
  where
    outside : (k : ℕ) → w.number ≡ k → (k < w.number) ⊎ (w.number + 1 ≤ k) → ⊥
    outside k is (inl low) = omega (arith, is, low)
    outside k is (inr high) = omega (arith, is, high)

-- ---- what a read gives
-- what waits covers whatever the device holds there
pub shown_same : (ws : List Waiting) (held new : Content) → AreWithin (length held) (ranges (pieces_of ws)) → ButIn (ranges (pieces_of ws)) held new → shown ws new ≡ shown ws held
shown_same ws held new fits but =
    ext_get_or [] (shown ws new) (shown ws held) (length_replay (pieces_of ws) new (subst (λ (n : ℕ). AreWithin n (ranges (pieces_of ws))) (sym but.as_long) fits) ∙ but.as_long ∙ sym (length_replay (pieces_of ws) held fits))
    (λ k lt. replay_outside_same (pieces_of ws) held new k but.as_long fits (but.same k))

pub shown_push : (ws : List Waiting) (w : Waiting) (held : Content) → shown (ws ++ w ∷ []) held ≡ laid_over (piece_of w) (shown ws held)
shown_push ws w held = ap (λ (ps : List Piece). replay ps held) (map-append piece_of ws (w ∷ [])) ∙ replay_push (pieces_of ws) (piece_of w) held

-- ---- handing on
fits_at : (n : ℕ) (ws : List Waiting) (i : ℕ) (w d : Waiting) → i < length ws → w ≡ get_or ws i d → AreWithin n (ranges (pieces_of ws)) → w.number + 1 ≤ n
fits_at n [] i w d lt is fits = absurd (omega (arith, lt))
fits_at n (x ∷ ws) zero w d lt is fits = rw is (fits_here n (piece_of x) (pieces_of ws) fits)
fits_at n (x ∷ ws) (suc i) w d lt is fits = fits_at n ws i w d (omega (arith, lt)) is (fits_rest n (piece_of x) (pieces_of ws) fits)

-- a sector that waits is written: all others stay
torn_waiting : (ws : List Waiting) (i : ℕ) (w d : Waiting) (x y : Content) → i < length ws → w ≡ get_or ws i d → Torn w.number 1 x y → ButIn (ranges (pieces_of ws)) x y
torn_waiting ws i w d x y lt is torn = record { as_long = torn.as_long; same = λ k u. ⊎_elim (torn.before k) (torn.after k) (at ws i lt is k u) }
  where
    at : (ws : List Waiting) (i : ℕ) → i < length ws → w ≡ get_or ws i d → (k : ℕ) → Untouched (ranges (pieces_of ws)) k → (k < w.number) ⊎ (w.number + 1 ≤ k)
    at [] i lt is k u = absurd (omega (arith, lt))
    at (x ∷ ws) zero lt is k u = subst (λ (y : Waiting). (k < y.number) ⊎ (y.number + 1 ≤ k)) (sym is) u.0
    at (x ∷ ws) (suc i) lt is k u = at ws i (omega (arith, lt)) is k u.1

but_crash : (ws : List Waiting) (a b c : Facts) (step : Content → Content → Type 0) → Passes a b (ButIn (ranges (pieces_of ws))) → Passes b c step → ((x y : Content) → step x y → ButIn (ranges (pieces_of ws)) x y)
    → Passes a c (ButIn (ranges (pieces_of ws)))
but_crash ws a b c step p q goes =
    passes_then a b c (ButIn (ranges (pieces_of ws))) step p q (λ x y z first second. agrees_then (ranges (pieces_of ws)) x y z first (goes y z second))

module _ (ws : List Waiting) (i : ℕ) (w d : Waiting) (a b : Facts) (f g : FaultState) (lt : i < length ws) (is : w ≡ get_or ws i d) (so_far : HandedOn i ws a b f g) where
  pub more_fits : AreWithin (length a.content) (ranges (pieces_of ws)) → w.number + 1 ≤ length b.content
  more_fits fits = fits_at (length b.content) ws i w d lt is (subst (λ (n : ℕ). AreWithin n (ranges (pieces_of ws))) (sym so_far.but.as_long) fits)

  module _ (c : Facts) (h : FaultState) where
    handed_but : Torn w.number 1 b.content c.content → ButIn (ranges (pieces_of ws)) a.content c.content
    handed_but torn = agrees_then (ranges (pieces_of ws)) a.content b.content c.content so_far.but (torn_waiting ws i w d b.content c.content lt is torn)

    pub handed_more : {T E : Type 0} (v : T) → AreWithin (length a.content) (ranges (pieces_of ws)) → Written w.number (w.sector ∷ []) b.content c.content → MakesCalls {T = T} {E = E} 1 (Torn w.number 1) b c g h (Ok v)
        → HandedOn (i + 1) ws a c f h
    handed_more v fits written called = record {
      so_far = written_laid w.number (w.sector ∷ []) b.content c.content (more_fits fits) written ∙ ap (laid_over (piece_of w)) so_far.so_far ∙ sym (shown_push (take i ws) w a.content)
          ∙ sym (ap (λ (us : List Waiting). shown us a.content) (take_more ws i d lt ∙ ap (λ (y : Waiting). take i ws ++ y ∷ []) (sym is)));
      but = handed_but called.content;
      crash = but_crash ws a b c (Torn w.number 1) so_far.crash called.crash (λ x y torn. torn_waiting ws i w d x y lt is torn);
      lent = called.lent ∙ so_far.lent;
      failures = called.failures.ok ∙ so_far.failures;
      cause = called.cause.ok ∙ so_far.cause;
    }

    pub handed_failed : {T E U F : Type 0} (e : E) (r : F) → MakesCalls {T = T} {E = E} 1 (Torn w.number 1) b c g h (Err e) → HandsOn {T = U} {E = F} ws a c f h (Err r)
    handed_failed e r called = record {
      all = tt;
      content = handed_but called.content;
      crash = but_crash ws a b c (Torn w.number 1) so_far.crash called.crash (λ x y torn. torn_waiting ws i w d x y lt is torn);
      lent = called.lent ∙ so_far.lent;
      failures = record { ok = tt; err = rw (← so_far.failures) called.failures.err };
      cause = record { ok = tt; err = subst (λ (x : FaultState). Cause x h) so_far.cause called.cause.err };
    }

-- ---- reading
-- one sector more is laid over those that were read
pub read_more : (first i n : ℕ) (w d : Waiting) (ws : List Waiting) (held old new : Content) → i < length ws → w ≡ get_or ws i d → AreWithin (length held) (ranges (pieces_of ws)) → length old ≡ n → length new ≡ n → first + n ≤ length held
    → AreSectorsAt first (shown (take i ws) held) old
    → ((k : ℕ) → k < n → (first + k ≡ w.number → sector new k ≡ w.sector) × ((first + k ≡ w.number → ⊥) → sector new k ≡ sector old k)) → AreSectorsAt first (shown (take (i + 1) ws) held) new
read_more first i n w d ws held old new lt is fits long long' within read put k less =
    subst (λ (us : List Waiting). sector new k ≡ sector (shown us held) (first + k)) (sym (take_more ws i d lt ∙ ap (λ (y : Waiting). take i ws ++ y ∷ []) (sym is)))
    (subst (λ (c : Content). sector new k ≡ sector c (first + k)) (sym (shown_push (take i ws) w held)) here)
  where
    k_in : k < n
    k_in = omega (arith, less, long')

    before : Content
    before = shown (take i ws) held

    as_long : length before ≡ length held
    as_long = length_replay (pieces_of (take i ws)) held (prefix ws i fits)
      where
        prefix : (ws : List Waiting) (i : ℕ) → AreWithin (length held) (ranges (pieces_of ws)) → AreWithin (length held) (ranges (pieces_of (take i ws)))
        prefix ws zero fits j lt = absurd (omega (arith, lt))
        prefix [] (suc i) fits j lt = absurd (omega (arith, lt))
        prefix (x ∷ ws) (suc i) fits zero lt = fits 0 (omega arith)
        prefix (x ∷ ws) (suc i) fits (suc j) lt = prefix ws i (fits_rest (length held) (piece_of x) (pieces_of ws) fits) j (omega (arith, lt))

    inside : w.number + 1 ≤ length before
    inside = rw as_long (fits_at (length held) ws i w d lt is fits)

    here : sector new k ≡ sector (laid_over (piece_of w) before) (first + k)
    here = elim (cases_eq (first + k) w.number) [
      | inl same ↦ (put k k_in).0 same ∙ sym (put_mid w.number (w.sector ∷ []) before inside (first + k) (omega (arith, same)) (omega (arith, same)) ∙ ap (sector (w.sector ∷ [])) (at same))
      | inr other ↦ (put k k_in).1 other ∙ read k (omega (arith, k_in, long)) ∙ sym (elim (cases_lt (first + k) w.number) [
        | inl low ↦ put_low w.number (w.sector ∷ []) before inside (first + k) low
        | inr le ↦ put_high w.number (w.sector ∷ []) before inside (first + k) (omega (arith, le, other))
      ])
    ]
      where
        at : first + k ≡ w.number → first + k - w.number ≡ 0
        at same = omega (arith, same)

-- a sector that waits was put in its place, or is none of those that were read
pub put_there : (first : ℕ) (w : Waiting) (old : Content) → first ≤ w.number → w.number - first < length old → (k : ℕ) → k < length old
    → (first + k ≡ w.number → sector (set old (w.number - first) w.sector) k ≡ w.sector) × ((first + k ≡ w.number → ⊥) → sector (set old (w.number - first) w.sector) k ≡ sector old k)
put_there first w old le less k lt = (
  λ same. get_or-set_at old (w.number - first) k w.sector [] (omega (arith, same, le)) less,
  λ other. get_or-set_other old (w.number - first) k w.sector [] (λ is. other (omega (arith, is, le))),
)

pub put_none : (first : ℕ) (w : Waiting) (old : Content) → (w.number < first) ⊎ (length old ≤ w.number - first) → (k : ℕ) → k < length old
    → (first + k ≡ w.number → sector old k ≡ w.sector) × ((first + k ≡ w.number → ⊥) → sector old k ≡ sector old k)
put_none first w old out k lt = (λ same. absurd (never same out), λ other. refl)
  where
    never : first + k ≡ w.number → (w.number < first) ⊎ (length old ≤ w.number - first) → ⊥
    never same (inl low) = omega (arith, same, low)
    never same (inr high) = omega (arith, same, high, lt)

module _ (first i : ℕ) (d : Waiting) (ws : List Waiting) (held old begun : Content) (lt : i < length ws) (fits : AreWithin (length held) (ranges (pieces_of ws))) (long : length old ≡ length begun) (within : first + length begun ≤ length held)
    (read : AreSectorsAt first (shown (take i ws) held) old) where
  pub read_put : first ≤ (get_or ws i d).number → (get_or ws i d).number - first < length old
      → AreSectorsAt first (shown (take (i + 1) ws) held) (set old ((get_or ws i d).number - first) (get_or ws i d).sector)
  read_put le less =
      read_more first i (length begun) (get_or ws i d) d ws held old (set old ((get_or ws i d).number - first) (get_or ws i d).sector) lt refl fits long (length-set old ((get_or ws i d).number - first) (get_or ws i d).sector ∙ long) within read
      (λ k small. put_there first (get_or ws i d) old le less k (omega (arith, small, long)))

  pub read_none : ((get_or ws i d).number < first) ⊎ (length old ≤ (get_or ws i d).number - first) → AreSectorsAt first (shown (take (i + 1) ws) held) old
  read_none out = read_more first i (length begun) (get_or ws i d) d ws held old old lt refl fits long long within read (λ k small. put_none first (get_or ws i d) old out k (omega (arith, small, long)))
