-- What a call of the disk does, by the calls of its device.
use Rattle.std.proofs.Common.{◌≡◌, ◌∙◌, refl, sym, ap, subst, ℕ, ◌+◌, ◌<◌, ◌≤◌, true, false, List, [], ◌∷◌, ◌++◌, length, get_or, arith, Result, Ok, Err, OnOk, OnErr}
use Rattle.std.{proofs.lemmas.Bool.Decides.nat_tests, specs.Prelude.{◌==◌}}
use Rattle.disk.specs.{FaultState.{FaultState, Caused}, Calls.MakesCalls}
use Rattle.disk.specs.Facts.{Content, Facts, LaneFacts, Lent, Counts, IsFresh, Joined, Only, Passes, Stays, Torn, Written, counted, nothing, lent_sectors}
use Rattle.disk.specs.WriteLog.{Piece, WriteLog, AgreesOutside, AreWithin, laid_over, lent_piece, more_written, more_synced, new_log, ranges, synced}
use Rattle.simdisk.proofs.Kept.{agrees_none, counts_one, fresh_over, kept_on, laid_written, stays_over, sync_durable, sync_kept, sync_passes, tears_over, torn_more, torn_same}
use Rattle.simdisk.{proofs.Lanes.{join_kept, none_back, split_kept, split_passes}, specs.declared.waiting.Waiting.Waiting}
use Rattle.simdisk.specs.{Cached.{piece_of, pieces_of, shown, facts_of, ButIn, IsCached, HandsOn}, CacheLaws.length_shown}
use Rattle.simdisk.proofs.Caches.{but_covered, cached_on, cached_none, cached_more, cached_waits, shown_same, shown_push}

pub length_nil : (ws : List Waiting) → length ws ≡ 0 → ws ≡ []
length_nil [] is = refl
length_nil (w ∷ ws) is = absurd (omega (arith, is))

-- ---- a call of the device alone
pub device_cached : {T E : Type 0} (ws : List Waiting) (log : WriteLog) (a b : Facts) (f g : FaultState) (r : Result T E) → IsCached ws log a → MakesCalls 1 Stays a b f g r → IsCached ws log b
device_cached ws log a b f g r cached m = cached_on ws log a b Stays cached m.crash (λ x y is. agrees_none (ranges log.written) x y is) (agrees_none (ranges log.written) a.content b.content m.content) m.lent

pub device_called : {T E : Type 0} (ws : List Waiting) (log : WriteLog) (i j : ℕ) (a b : Facts) (f g : FaultState) (r : Result T E) → j ≡ counted i 1 → MakesCalls 1 Stays a b f g r
    → MakesCalls 1 Stays (facts_of ws log i a) (facts_of ws log j b) f g r
device_called ws log i j a b f g r is m = record {
  content = ap (λ (x : Content). shown ws x) m.content;
  crash = stays_over (shown ws a.content) (shown ws b.content) log i j a b;
  lent = m.lent;
  calls = counts_one i j r is;
  failures = m.failures;
  cause = m.cause;
  gone = m.gone;
}

-- an error is handed on as another
pub other_error : {T E U F : Type 0} (n : ℕ) (step : Content → Content → Type 0) (a b : Facts) (f g : FaultState) (e : E) (r : F) → MakesCalls {T = T} {E = E} n step a b f g (Err e) → MakesCalls {T = U} {E = F} n step a b f g (Err r)
other_error n step a b f g e r m = record {
  content = m.content;
  crash = m.crash;
  lent = m.lent;
  calls = record { ok = tt; err = m.calls.err };
  failures = record { ok = tt; err = m.failures.err };
  cause = record { ok = tt; err = m.cause.err };
  gone = tt;
}

pub none_waits : (ws : List Waiting) → ws ≡ [] → 0 < length ws → ⊥
none_waits ws none lt = omega (arith, lt, ap (λ (us : List Waiting). length us) none)

pub waits_none : (ws : List Waiting) (n : ℕ) → n ≡ length ws → true ≡ (n == 0) → ws ≡ []
waits_none ws n long none = length_nil ws (grind (arith, nat_tests))

-- ---- what waits was handed on
pub handed_cached : {T E : Type 0} (ws : List Waiting) (log : WriteLog) (a b : Facts) (f g : FaultState) (r : Result T E) → IsCached ws log a → HandsOn ws a b f g r → IsCached ws log b
handed_cached ws log a b f g r cached handed =
    cached_on ws log a b (ButIn (ranges (pieces_of ws))) cached handed.crash (λ x y but. but_covered ws log a x y cached but) (but_covered ws log a a.content b.content cached handed.content) handed.lent

same_shown : {T E : Type 0} (ws ws' : List Waiting) (log : WriteLog) (a b : Facts) (f g : FaultState) (r : Result T E) → IsCached ws log a → ws' ≡ ws → HandsOn ws a b f g r → shown ws' b.content ≡ shown ws a.content
same_shown ws ws' log a b f g r cached same handed = ap (λ (us : List Waiting). shown us b.content) same ∙ shown_same ws a.content b.content cached.fits handed.content

-- whether or not that failed
pub any_cached : {T E : Type 0} (ws ws' : List Waiting) (log : WriteLog) (a b : Facts) (f g : FaultState) (r : Result T E) → IsCached ws log a → HandsOn ws a b f g r → OnOk r (ws' ≡ []) → OnErr r (ws' ≡ ws) → IsCached ws' log b
any_cached ws ws' log a b f g (Ok v) cached handed none all = subst (λ (us : List Waiting). IsCached us log b) (sym none) (cached_none log b (handed_cached ws log a b f g (Ok v) cached handed).kept)
any_cached ws ws' log a b f g (Err e) cached handed none all = subst (λ (us : List Waiting). IsCached us log b) (sym all) (handed_cached ws log a b f g (Err e) cached handed)

pub any_alone : {T E : Type 0} (ws ws' : List Waiting) (a b : Facts) (f g : FaultState) (r : Result T E) → (0 < length ws → a.lent.lanes ≡ 0) → HandsOn ws a b f g r → OnOk r (ws' ≡ []) → OnErr r (ws' ≡ ws) → 0 < length ws' → b.lent.lanes ≡ 0
any_alone ws ws' a b f g (Ok v) alone handed none all lt = absurd (omega (arith, lt, ap (λ (us : List Waiting). length us) none))
any_alone ws ws' a b f g (Err e) alone handed none all lt = ap (λ (l : Lent). l.lanes) handed.lent ∙ alone (subst (λ (us : List Waiting). 0 < length us) all lt)

-- ---- a write
module _ {T E U F : Type 0} (ws ws' : List Waiting) (log log' : WriteLog) (i j : ℕ) (a b : Facts) (f g : FaultState) (first : ℕ) (s : Content) (cached : IsCached ws log a) (more : log' ≡ more_written (first, s) log) (within : first + length s ≤ length a.content) (is : j ≡ counted i 1) where
  -- handing on failed
  pub write_failed : (e : E) (r : F) → ws' ≡ ws → HandsOn {T = T} {E = E} ws a b f g (Err e) → MakesCalls {T = U} {E = F} 1 (Torn first (length s)) (facts_of ws log i a) (facts_of ws' log' j b) f g (Err r)
  write_failed e r same handed = record {
    content = torn_same first (length s) (shown ws a.content) (shown ws' b.content) (same_shown ws ws' log a b f g (Err e) cached same handed);
    crash = tears_over (shown ws a.content) (shown ws' b.content) log log' i j a b (first, s) cached.kept more within;
    lent = handed.lent;
    calls = counts_one i j (Err r) is;
    failures = record { ok = tt; err = handed.failures.err };
    cause = record { ok = tt; err = handed.cause.err };
    gone = tt;
  }

  -- the device was written
  module _ (c : Facts) (h : FaultState) (v : T) (r : Result U F) (none : ws' ≡ []) (handed : HandsOn {T = T} {E = E} ws a b f g (Ok v)) (m : MakesCalls {T = U} {E = F} 1 (Torn first (length s)) b c g h r) where
    after : shown ws' c.content ≡ c.content
    after = ap (λ (us : List Waiting). shown us c.content) none

    pub write_called : MakesCalls {T = U} {E = F} 1 (Torn first (length s)) (facts_of ws log i a) (facts_of ws' log' j c) f h r
    write_called = record {
      content = subst (λ (x : Content). Torn first (length s) x (shown ws' c.content)) handed.all (subst (λ (x : Content). Torn first (length s) b.content x) (sym after) m.content);
      crash = tears_over (shown ws a.content) (shown ws' c.content) log log' i j a c (first, s) cached.kept more within;
      lent = m.lent ∙ handed.lent;
      calls = counts_one i j r is;
      failures = subst (λ (n : ℕ). Counts n c.failures r) handed.failures.ok m.failures;
      cause = subst (λ (x : FaultState). Caused x h r) handed.cause.ok m.cause;
      gone = subst (λ (x : FaultState). OnOk r (x.struck ≡ false)) handed.cause.ok m.gone;
    }

    pub write_cached : IsCached ws' log' c
    write_cached =
        let at_b = handed_cached ws log' a b f g (Ok v) (cached_more ws log log' (first, s) a cached more within) handed in
        subst (λ (us : List Waiting). IsCached us log' c) (sym none) (cached_none log' c (kept_on log' b c (Torn first (length s)) at_b.kept m.crash (λ x y t. torn_more log log' (first, s) x y more t) (torn_more log log' (first, s) b.content c.content more m.content) m.lent))

-- the sector waits
module _ (ws ws' : List Waiting) (w : Waiting) (log log' : WriteLog) (i j : ℕ) (a : Facts) (f : FaultState) (first : ℕ) (s : Content) (cached : IsCached ws log a) (more : log' ≡ more_written (first, s) log) (within : first + length s ≤ length a.content)
    (push : ws' ≡ ws ++ w ∷ []) (number : w.number ≡ first) (one : s ≡ w.sector ∷ []) where
  piece_is : piece_of w ≡ (first, s)
  piece_is = ap (λ (n : ℕ). (n, w.sector ∷ [])) number ∙ ap (λ (x : Content). (first, x)) (sym one)

  pub waits_written : Written first s (shown ws a.content) (shown ws' a.content)
  waits_written =
      subst (λ (x : Content). Written first s (shown ws a.content) x)
      (sym (ap (λ (us : List Waiting). shown us a.content) push ∙ shown_push ws w a.content ∙ ap (λ (p : Piece). laid_over p (shown ws a.content)) piece_is))
      (laid_written (first, s) (shown ws a.content) (subst (λ (n : ℕ). first + length s ≤ n) (sym (length_shown ws log a cached)) within))

  pub waits_cached : IsCached ws' log' a
  waits_cached =
      subst (λ (us : List Waiting). IsCached us log' a) (sym push)
      (cached_waits ws w log log' a cached (more ∙ ap (λ (p : Piece). more_written p log) (sym piece_is)) (omega (arith, within, number, ap (λ (x : Content). length x) one)))

  pub waits_called : {T E : Type 0} (v : T) → j ≡ counted i 1 → f.struck ≡ false → MakesCalls {T = T} {E = E} 1 (Torn first (length s)) (facts_of ws log i a) (facts_of ws' log' j a) f f (Ok v)
  waits_called v is lit = record {
    content = waits_written.elsewhere;
    crash = tears_over (shown ws a.content) (shown ws' a.content) log log' i j a a (first, s) cached.kept more within;
    lent = refl;
    calls = counts_one i j (Ok v) is;
    failures = record { ok = refl; err = tt };
    cause = record { ok = refl; err = tt };
    gone = lit;
  }

-- ---- a sync
pub sync_failed : {T E U F : Type 0} (ws ws' : List Waiting) (log : WriteLog) (i j : ℕ) (a b : Facts) (f g : FaultState) (e : E) (r : F) → IsCached ws log a → j ≡ counted i 1 → ws' ≡ ws → HandsOn {T = T} {E = E} ws a b f g (Err e)
    → MakesCalls {T = U} {E = F} 1 Stays (facts_of ws log i a) (facts_of ws' log j b) f g (Err r)
sync_failed ws ws' log i j a b f g e r cached is same handed = record {
  content = same_shown ws ws' log a b f g (Err e) cached same handed;
  crash = stays_over (shown ws a.content) (shown ws' b.content) log i j a b;
  lent = handed.lent;
  calls = counts_one i j (Err r) is;
  failures = record { ok = tt; err = handed.failures.err };
  cause = record { ok = tt; err = handed.cause.err };
  gone = tt;
}

module _ {T E : Type 0} (ws ws' : List Waiting) (log : WriteLog) (i j : ℕ) (a b c : Facts) (f g h : FaultState) (v : T) (cached : IsCached ws log a) (is : j ≡ counted i 1) (none : ws' ≡ []) (handed : HandsOn {T = T} {E = E} ws a b f g (Ok v)) where
  module _ {U F : Type 0} (r : Result U F) (m : MakesCalls {T = U} {E = F} 1 Stays b c g h r) where
    gone_on : shown ws' c.content ≡ shown ws a.content
    gone_on = ap (λ (us : List Waiting). shown us c.content) none ∙ m.content ∙ handed.all

    -- the device was synced, by a crash of which that is so
    pub synced_called : (log' : WriteLog) → Passes (facts_of ws log i a) (facts_of ws' log' j c) Stays → MakesCalls {T = U} {E = F} 1 Stays (facts_of ws log i a) (facts_of ws' log' j c) f h r
    synced_called log' crash = record {
      content = gone_on;
      crash = crash;
      lent = m.lent ∙ handed.lent;
      calls = counts_one i j r is;
      failures = subst (λ (n : ℕ). Counts n c.failures r) handed.failures.ok m.failures;
      cause = subst (λ (x : FaultState). Caused x h r) handed.cause.ok m.cause;
      gone = subst (λ (x : FaultState). OnOk r (x.struck ≡ false)) handed.cause.ok m.gone;
    }

    pub synced_none : IsCached [] log c
    synced_none = cached_none log c (device_cached ws log b c g h r (handed_cached ws log a b f g (Ok v) cached handed) m).kept

    pub synced_so : MakesCalls {T = U} {E = F} 1 Stays (facts_of ws log i a) (facts_of ws' log j c) f h r
    synced_so = synced_called log (stays_over (shown ws a.content) (shown ws' c.content) log i j a c)

-- all of it
pub sync_ok : {T E U F : Type 0} (ws ws' : List Waiting) (log log' : WriteLog) (i j : ℕ) (a b c : Facts) (f g h : FaultState) (v : T) (u : U) → IsCached ws log a → j ≡ counted i 1 → ws' ≡ [] → HandsOn {T = T} {E = E} ws a b f g (Ok v)
    → MakesCalls {T = U} {E = F} 1 Stays b c g h (Ok u) → log' ≡ more_synced c.content (lent_piece c.lent c.content ∷ []) log → ((x : Content) → c.may_leave x → Torn b.lent.first (lent_sectors b.lent) c.content x)
    → MakesCalls {T = U} {E = F} 1 Stays (facts_of ws log i a) (facts_of ws' log' j c) f h (Ok u)
    × IsCached ws' log' c
    × (a.lent.lanes ≡ 0 → Only (shown ws' c.content) (λ x. AgreesOutside (synced log') (ranges log'.written) x))
sync_ok {T = T} {E = E} {U = U} {F = F} ws ws' log log' i j a b c f g h v u cached is none handed m more only =
    let at = synced_none {T = T} {E = E} ws ws' log i j a b c f g h v cached is none handed {U = U} {F = F} (Ok u) m in (
      synced_called {T = T} {E = E} ws ws' log i j a b c f g h v cached is none handed {U = U} {F = F} (Ok u) m log' (sync_passes log log' c at.kept more (shown ws a.content) (shown ws' c.content) i j a),
      subst (λ (us : List Waiting). IsCached us log' c) (sym none) (cached_none log' c (sync_kept log log' c at.kept more (λ x may. subst (λ (l : Lent). Torn l.first (lent_sectors l) c.content x) (sym m.lent) (only x may)))),
      λ nil x but. sync_durable log log' c at.kept more (ap (λ (l : Lent). l.lanes) (m.lent ∙ handed.lent) ∙ nil) x but ∙ sym (ap (λ (us : List Waiting). shown us c.content) none),
    )

-- ---- lanes
-- where nothing waits
pub split_over : (ws : List Waiting) (log log' : WriteLog) (i : ℕ) (a b : Facts) (l : Lent) → ws ≡ [] → IsCached ws log a → b.lent ≡ l → l.first + lent_sectors l ≤ length (shown ws a.content) → b.content ≡ a.content
    → log' ≡ more_written (lent_piece b.lent b.content) log → Passes a b (Torn l.first (lent_sectors l))
    → IsCached ws log' b × Passes (facts_of ws log i a) (facts_of ws log' i b) (Torn l.first (lent_sectors l))
split_over ws log log' i a b l none cached lent within same more passes =
    let fits : l.first + lent_sectors l ≤ length a.content = subst (λ (us : List Waiting). l.first + lent_sectors l ≤ length (shown us a.content)) none within in (
      subst (λ (us : List Waiting). IsCached us log' b) (sym none) (cached_none log' b (split_kept log log' a b l cached.kept lent fits same more passes)),
      split_passes log log' a b l cached.kept lent fits same more (shown ws a.content) (shown ws b.content) i i,
    )

pub join_shown : (ws : List Waiting) (a b : Facts) (lanes : List LaneFacts) → (0 < length ws → a.lent.lanes ≡ 0) → Joined a.lent lanes a.content b.content → Joined a.lent lanes (shown ws a.content) (shown ws b.content)
join_shown [] a b lanes alone joined = joined
join_shown (w ∷ ws) a b lanes alone joined = record {
  elsewhere = torn_same a.lent.first (lent_sectors a.lent) (shown (w ∷ ws) a.content) (shown (w ∷ ws) b.content) (ap (shown (w ∷ ws)) (none_back a b lanes none joined));
  there = λ i j lt less. absurd (omega (arith, lt, none));
}
  where
    none : a.lent.lanes ≡ 0
    none = alone (omega arith)

pub join_cached : (ws : List Waiting) (log : WriteLog) (a b : Facts) (lanes : List LaneFacts) → IsCached ws log a → Joined a.lent lanes a.content b.content → b.lent ≡ nothing → Passes a b Stays → IsCached ws log b
join_cached ws log a b lanes cached joined back passes = record {
  kept = join_kept log a b lanes cached.kept joined back passes;
  fits = subst (λ (n : ℕ). AreWithin n (ranges (pieces_of ws))) (sym joined.elsewhere.as_long) cached.fits;
  waits = cached.waits;
}

-- ---- at first
pub fresh_at_first : (ws : List Waiting) (a : Facts) (log : WriteLog) (i : ℕ) → ws ≡ [] → IsFresh a.content a → log ≡ new_log a.content → IsFresh a.content (facts_of ws log i a)
fresh_at_first ws a log i none fresh begun = fresh_over (shown ws a.content) a log i (ap (λ (us : List Waiting). shown us a.content) none) fresh begun

pub one_item : (xs : Content) (d : List ℕ) → length xs ≡ 1 → xs ≡ get_or xs 0 d ∷ []
one_item [] d is = absurd (omega (arith, is))
one_item (x ∷ xs) d is = ap (λ (ys : Content). x ∷ ys) (nil xs (omega (arith, is)))
  where
    nil : (ys : Content) → length ys ≡ 0 → ys ≡ []
    nil [] is = refl
    nil (y ∷ ys) is = absurd (omega (arith, is))
