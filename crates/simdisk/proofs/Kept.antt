-- A device, a log of it, and the facts of the disk over both.
use Rattle.std.proofs.Common.{◌≡◌, ◌⊎◌, ◌∙◌, inl, inr, ⊎_elim, refl, sym, ap, subst, zero, suc, ℕ, ◌+◌, ◌-◌, ◌*◌, ◌<◌, ◌≤◌, List, [], ◌∷◌, ◌++◌, length, drop, map, arith, length-drop, Result, Ok, Err}
use Rattle.std.proofs.{Math.Nat.zero-mul, lemmas.{List.{map-append, ext_get_or, length-take-le}, Bool.cases_lt}}
use Rattle.disk.{specs.{FaultState.FaultState, Calls.{CountsCalls, MakesCalls}}, proofs.Stretches.{passes_range, passes_sync}}
use Rattle.disk.specs.Facts.{Content, Facts, Lent, IsFresh, LeavesAfter, Only, Passes, Stays, Torn, Written, counted, sector, lent_sectors}
use Rattle.disk.specs.WriteLog.{Piece, WriteLog, AgreesOutside, AreWithin, Untouched, laid_over, lent_piece, more_written, more_synced, new_log, piece_in, range, ranges, sim_facts, synced}
use Rattle.disk.proofs.Pieces.{length-put, put_low, put_mid, put_high, synced_push, replay_copied, fits_push}
use Rattle.disk.proofs.Ranges.{agrees_all, agrees_push, durable, untouched_push}
use Rattle.simdisk.specs.Kept.{IsKept, facts_over}

-- ---- contents
pub agrees_none : (rs : List (ℕ × ℕ)) (x y : Content) → y ≡ x → AgreesOutside x rs y
agrees_none rs x y is = record { as_long = ap length is; same = λ k u. ap (λ (c : Content). sector c k) is }

pub agrees_then : (rs : List (ℕ × ℕ)) (x y z : Content) → AgreesOutside x rs y → AgreesOutside y rs z → AgreesOutside x rs z
agrees_then rs x y z p q = record { as_long = q.as_long ∙ p.as_long; same = λ k u. q.same k u ∙ p.same k u }

pub torn_same : (first n : ℕ) (x y : Content) → y ≡ x → Torn first n x y
torn_same first n x y is = record {
  as_long = ap length is;
  before = λ k lt. ap (λ (c : Content). sector c k) is;
  after = λ k le. ap (λ (c : Content). sector c k) is;
}

-- a write, and the piece of it laid over what stood
pub laid_written : (p : Piece) (c : Content) → p.0 + length p.1 ≤ length c → Written p.0 p.1 c (laid_over p c)
laid_written p c within = record {
  elsewhere = record { as_long = length-put p.0 p.1 c within; before = put_low p.0 p.1 c within; after = put_high p.0 p.1 c within };
  there = λ i lt. put_mid p.0 p.1 c within (p.0 + i) (omega arith) (omega (arith, lt)) ∙ ap (sector p.1) (at i);
}
  where
    at : (i : ℕ) → p.0 + i - p.0 ≡ i
    at i = omega arith

pub written_laid : (first : ℕ) (s old new : Content) → first + length s ≤ length old → Written first s old new → new ≡ laid_over (first, s) old
written_laid first s old new within written =
    ext_get_or [] new (laid_over (first, s) old) (written.elsewhere.as_long ∙ sym (length-put first s old within)) (λ k lt. elim (cases_lt k first) [
      | inl low ↦ written.elsewhere.before k low ∙ sym (put_low first s old within k low)
      | inr le ↦ elim (cases_lt k (first + length s)) [
        | inl less ↦ ap (sector new) (at k le) ∙ written.there (k - first) (omega (arith, le, less)) ∙ sym (put_mid first s old within k le less)
        | inr high ↦ written.elsewhere.after k high ∙ sym (put_high first s old within k high)
      ]
    ])
  where
    at : (k : ℕ) → first ≤ k → k ≡ first + (k - first)
    at k le = omega (arith, le)

pub counts_one : {T E : Type 0} (i j : ℕ) (r : Result T E) → j ≡ counted i 1 → CountsCalls 1 i j r
counts_one i j (Ok v) is = record { ok = is; err = tt }
counts_one i j (Err e) is = record { ok = tt; err = (omega (arith, is), omega (arith, is)) }

-- ---- what a call of the device leaves of it
pub kept_on : (log : WriteLog) (a b : Facts) (step : Content → Content → Type 0) → IsKept log a → Passes a b step → ((x y : Content) → step x y → AgreesOutside x (ranges log.written) y) → AgreesOutside a.content (ranges log.written) b.content
    → b.lent ≡ a.lent → IsKept log b
kept_on log a b step kept passes steps but same = record {
  fits = subst (λ (n : ℕ). AreWithin n (ranges log.written)) (sym but.as_long) kept.fits;
  holds = agrees_then (ranges log.written) (synced log) a.content b.content kept.holds but;
  leaves = λ c may. left c (passes.now c may);
  lent = subst (λ (l : Lent). (k : ℕ) → l.first ≤ k → k < l.first + lent_sectors l → Untouched (ranges log.written) k → ⊥) (sym same) kept.lent;
  lent_fits = subst (λ (l : Lent). l.first + lent_sectors l ≤ length b.content) (sym same) (subst (λ (n : ℕ). a.lent.first + lent_sectors a.lent ≤ n) (sym but.as_long) kept.lent_fits);
}
  where
    left : (c : Content) → LeavesAfter a step c → AgreesOutside (synced log) (ranges log.written) c
    left c from = agrees_then (ranges log.written) (synced log) from.0 c (kept.leaves from.0 from.1) (steps from.0 c from.2)

-- a read, and a sync that failed
pub kept_called : {T E : Type 0} (log : WriteLog) (a b : Facts) (f g : FaultState) (r : Result T E) → IsKept log a → MakesCalls 1 Stays a b f g r → IsKept log b
kept_called log a b f g r kept m = kept_on log a b Stays kept m.crash (λ x y is. agrees_none (ranges log.written) x y is) (agrees_none (ranges log.written) a.content b.content m.content) m.lent

-- a write more is in the log
pub ranges_more : (log : WriteLog) (p : Piece) → ranges (more_written p log).written ≡ ranges log.written ++ range p ∷ []
ranges_more log p = map-append range log.written (p ∷ [])

pub untouched_more : (log log' : WriteLog) (p : Piece) (k : ℕ) → log' ≡ more_written p log → Untouched (ranges log'.written) k → Untouched (ranges log.written) k × ((k < p.0) ⊎ (p.0 + length p.1 ≤ k))
untouched_more log log' p k more u = untouched_push (ranges log.written) (range p) k (subst (λ (rs : List (ℕ × ℕ)). Untouched rs k) (ap (λ (q : WriteLog). ranges q.written) more ∙ ranges_more log p) u)

pub torn_more : (log log' : WriteLog) (p : Piece) (x y : Content) → log' ≡ more_written p log → Torn p.0 (length p.1) x y → AgreesOutside x (ranges log'.written) y
torn_more log log' p x y more torn = record { as_long = torn.as_long; same = λ k u. ⊎_elim (torn.before k) (torn.after k) (untouched_more log log' p k more u).1 }

pub kept_more : (log log' : WriteLog) (p : Piece) (a : Facts) → IsKept log a → log' ≡ more_written p log → p.0 + length p.1 ≤ length a.content → IsKept log' a
kept_more log log' p a kept more within = subst (λ (q : WriteLog). IsKept q a) (sym more) (record {
  fits = fits_push (length a.content) log.written p kept.fits within;
  holds = pushed a.content kept.holds;
  leaves = λ c may. pushed c (kept.leaves c may);
  lent = λ k le lt u. kept.lent k le lt (untouched_more log (more_written p log) p k refl u).0;
  lent_fits = kept.lent_fits;
})
  where
    pushed : (c : Content) → AgreesOutside (synced log) (ranges log.written) c → AgreesOutside (synced log) (ranges (more_written p log).written) c
    pushed c but = subst (λ (rs : List (ℕ × ℕ)). AgreesOutside (synced log) rs c) (sym (ranges_more log p)) (agrees_push (synced log) (ranges log.written) (range p) c but)

-- which the device was then asked for
pub kept_written : {T E : Type 0} (log log' : WriteLog) (p : Piece) (a b : Facts) (f g : FaultState) (r : Result T E) → IsKept log a → log' ≡ more_written p log → p.0 + length p.1 ≤ length a.content → MakesCalls 1 (Torn p.0 (length p.1)) a b f g r
    → IsKept log' b
kept_written log log' p a b f g r kept more within m =
    kept_on log' a b (Torn p.0 (length p.1)) (kept_more log log' p a kept more within) m.crash (λ x y torn. torn_more log log' p x y more torn) (torn_more log log' p a.content b.content more m.content) m.lent

-- ---- what it does to the facts of the disk, which read x before and y after it
-- the log stays: a crash leaves what it might have left before
pub stays_over : (x y : Content) (log : WriteLog) (i j : ℕ) (a b : Facts) → Passes (facts_over x log i a) (facts_over y log j b) Stays
stays_over x y log i j a b = record {
  later = omega arith;
  now = λ c may. (c, may, refl);
  nothing_else = λ t c le left. inl left;
  keeps = λ t c le left. left;
}

-- a write more is in it
pub tears_over : (x y : Content) (log log' : WriteLog) (i j : ℕ) (a b : Facts) (p : Piece) → IsKept log a → log' ≡ more_written p log → p.0 + length p.1 ≤ length a.content → Passes (facts_over x log i a) (facts_over y log' j b) (Torn p.0 (length p.1))
tears_over x y log log' i j a b p kept more within =
    passes_range x y (synced log) (synced log') log log' a.failures b.failures i j a.lent b.lent p more (ap synced more) (subst (λ (n : ℕ). p.0 + length p.1 ≤ n) kept.holds.as_long within)

-- a call that the disk hands on
pub called_over : {T E : Type 0} (log log' : WriteLog) (a b : Facts) (f g : FaultState) (step : Content → Content → Type 0) (r : Result T E) → MakesCalls 1 step a b f g r
    → Passes (facts_over a.content log a.calls a) (facts_over b.content log' b.calls b) step → MakesCalls 1 step (facts_over a.content log a.calls a) (facts_over b.content log' b.calls b) f g r
called_over log log' a b f g step r m crash = record {
  content = m.content;
  crash = crash;
  lent = m.lent;
  calls = m.calls;
  failures = m.failures;
  cause = m.cause;
  gone = m.gone;
}

-- ---- a sync that the device answered Ok: the log has a sync more
-- what is lent, as a range
pub range_lent : (l : Lent) (c : Content) → l.first + lent_sectors l ≤ length c → length (lent_piece l c).1 ≡ lent_sectors l
range_lent l c within = length-take-le (l.lanes * l.each) (drop l.first c) (omega (arith, within, length-drop l.first c))

module _ (log log' : WriteLog) (b : Facts) (kept : IsKept log b) (more : log' ≡ more_synced b.content (lent_piece b.lent b.content ∷ []) log) where
  lent_long : length (lent_piece b.lent b.content).1 ≡ lent_sectors b.lent
  lent_long = range_lent b.lent b.content kept.lent_fits

  fits_synced : AreWithin (length (synced log)) (ranges log.written)
  fits_synced = subst (λ (n : ℕ). AreWithin n (ranges log.written)) kept.holds.as_long kept.fits

  pub stands : synced log' ≡ b.content
  stands = ap synced more ∙ synced_push log.past (map (piece_in b.content) log.written) log.began ∙ replay_copied (synced log) b.content log.written kept.holds fits_synced

  fewer : (k : ℕ) → Untouched (ranges log.written) k → Untouched (ranges (lent_piece b.lent b.content ∷ [])) k
  fewer k u = (
    elim (cases_lt k b.lent.first) [
      | inl low ↦ inl low
      | inr le ↦ elim (cases_lt k (b.lent.first + lent_sectors b.lent)) [
        | inl less ↦ absurd (kept.lent k le less u)
        | inr high ↦ inr (omega (arith, high, lent_long))
      ]
    ],
    tt,
  )

  pub sync_passes : (x y : Content) (i j : ℕ) (a : Facts) → Passes (facts_over x log i a) (facts_over y log' j b) Stays
  sync_passes x y i j a = record { later = p.later; now = p.now; nothing_else = p.nothing_else; keeps = p.keeps }
    where
      p : Passes (sim_facts b.content (synced log) log a.failures i b.lent) (sim_facts b.content (synced log') log' b.failures j b.lent) Stays
      p = passes_sync b.content (synced log) (synced log') log log' a.failures b.failures i j b.lent (lent_piece b.lent b.content ∷ []) more stands refl kept.holds fits_synced fewer

  -- what a crash then leaves by the log
  left : (x : Content) → AgreesOutside (synced log') (ranges log'.written) x → AgreesOutside b.content (ranges (lent_piece b.lent b.content ∷ [])) x
  left x but = subst (λ (q : WriteLog). AgreesOutside b.content (ranges q.written) x) more (subst (λ (y : Content). AgreesOutside y (ranges log'.written) x) stands but)

  pub sync_durable : b.lent.lanes ≡ 0 → Only b.content (λ x. AgreesOutside (synced log') (ranges log'.written) x)
  sync_durable none x but = durable b.lent.first (length (lent_piece b.lent b.content).1) b.content x (lent_long ∙ ap (λ (n : ℕ). n * b.lent.each) none ∙ zero-mul b.lent.each) (left x but)

  pub sync_kept : ((x : Content) → b.may_leave x → Torn b.lent.first (lent_sectors b.lent) b.content x) → IsKept log' b
  sync_kept only = record {
    fits = subst (λ (q : WriteLog). AreWithin (length b.content) (ranges q.written)) (sym more) within;
    holds = agrees_none (ranges log'.written) (synced log') b.content (sym stands);
    leaves = λ x may. subst (λ (y : Content). AgreesOutside y (ranges log'.written) x) (sym stands) (subst (λ (q : WriteLog). AgreesOutside b.content (ranges q.written) x) (sym more) (in_lent x (only x may)));
    lent = λ k le lt u. out k le lt (subst (λ (q : WriteLog). Untouched (ranges q.written) k) more u).0;
    lent_fits = kept.lent_fits;
  }
    where
      within : AreWithin (length b.content) (ranges (lent_piece b.lent b.content ∷ []))
      within zero lt = rw lent_long kept.lent_fits
      within (suc n) lt = absurd (omega (arith, lt))

      in_lent : (x : Content) → Torn b.lent.first (lent_sectors b.lent) b.content x → AgreesOutside b.content (ranges (lent_piece b.lent b.content ∷ [])) x
      in_lent x torn = record { as_long = torn.as_long; same = λ k u. ⊎_elim (torn.before k) (λ high. torn.after k (omega (arith, high, lent_long))) u.0 }

      out : (k : ℕ) → b.lent.first ≤ k → k < b.lent.first + lent_sectors b.lent → (k < b.lent.first) ⊎ (b.lent.first + length (lent_piece b.lent b.content).1 ≤ k) → ⊥
      out k le lt (inl low) = omega (arith, le, low)
      out k le lt (inr high) = omega (arith, lt, high, lent_long)

-- ---- at first
pub fresh_over : (x : Content) (a : Facts) (log : WriteLog) (i : ℕ) → x ≡ a.content → IsFresh a.content a → log ≡ new_log a.content → IsFresh a.content (facts_over x log i a)
fresh_over x a log i reads fresh begun = record {
  reads = reads;
  durable = λ c but. agrees_all a.content c (subst (λ (q : WriteLog). AgreesOutside (synced q) (ranges q.written) c) begun but);
  none_out = fresh.none_out;
}
