-- What writes and syncs leave of the facts.
use Rattle.std.proofs.Common.{◌≡◌, ◌⊎◌, ◌∙◌, inl, inr, ⊎_elim, refl, ℕ, ◌+◌, ◌≤◌, List, [], ◌∷◌, ◌++◌, length, take, drop, map, sym, ap, subst, arith, length-append}
use Rattle.std.proofs.lemmas.List.{map-append, take-append-le, drop-append-le, take-append-drop}
use Rattle.disk.{specs.Facts.{Content, Facts, Lent, LeavesAfter, Passes, Stays, Torn}, proofs.Ranges.{agrees_push, crash_write, crash_sync}}
use Rattle.disk.specs.WriteLog.{Piece, WriteLog, replay, piece_in, range, ranges, synced_after, more_written, more_synced, Untouched, AgreesOutside, AreWithin, Had, sim_facts}
use Rattle.disk.proofs.Pieces.{ranges_copied}

had_push : (stood : Content) (past : List (List Piece)) (e : List Piece) (c : Content) → Had stood past c → Had stood (past ++ e ∷ []) c
had_push stood [] e c had = absurd had
had_push stood (x ∷ past) e c (inl here) = inl here
had_push stood (x ∷ past) e c (inr there) = inr (had_push (replay x stood) past e c there)

had_last : (stood : Content) (past : List (List Piece)) (e : List Piece) (c : Content) → AgreesOutside (synced_after past stood) (ranges e) c → Had stood (past ++ e ∷ []) c
had_last stood [] e c a = inl a
had_last stood (x ∷ past) e c a = inr (had_last (replay x stood) past e c a)

had_either : (stood : Content) (past : List (List Piece)) (e : List Piece) (c : Content) → Had stood (past ++ e ∷ []) c → Had stood past c ⊎ AgreesOutside (synced_after past stood) (ranges e) c
had_either stood [] e c (inl here) = inr here
had_either stood [] e c (inr none) = absurd none
had_either stood (x ∷ past) e c (inl here) = inl (inl here)
had_either stood (x ∷ past) e c (inr there) = ⊎_elim (λ had. inl (inr had)) (λ new. inr new) (had_either (replay x stood) past e c there)

synced_append : (xs ys : List (List Piece)) (c : Content) → synced_after (xs ++ ys) c ≡ synced_after ys (synced_after xs c)
synced_append [] ys c = refl
synced_append (x ∷ xs) ys c = synced_append xs ys (replay x c)

synced_parts : (t : ℕ) (past : List (List Piece)) (c : Content) → synced_after (drop t past) (synced_after (take t past) c) ≡ synced_after past c
synced_parts t past c = sym (synced_append (take t past) (drop t past) c) ∙ ap (λ (es : List (List Piece)). synced_after es c) (take-append-drop t past)

-- the bytes of what is written change, and no range of it
pub passes_ranges : (now new stood stood' : Content) (r r' : WriteLog) (f g i j : ℕ) (l m : Lent) → ranges r'.written ≡ ranges r.written → r'.past ≡ r.past → r'.began ≡ r.began → stood' ≡ stood
    → Passes (sim_facts now stood r f i l) (sim_facts new stood' r' g j m) Stays
passes_ranges now new stood stood' r r' f g i j l m same past began is = record {
  later = omega (arith, ap (λ (es : List (List Piece)). length es) past);
  now = λ c a. (c, back c a, refl);
  nothing_else = λ t c le left. inl (⊎_elim (λ a. inl (back c a)) (λ had. inr (subst (λ (T : Type 0). T) (had_same t c) had)) left);
  keeps = λ t c le left. ⊎_elim (λ a. inl (onto c a)) (λ had. inr (subst (λ (T : Type 0). T) (sym (had_same t c)) had)) left;
}
  where
    back : (c : Content) → AgreesOutside stood' (ranges r'.written) c → AgreesOutside stood (ranges r.written) c
    back c a = subst (λ (s : Content). AgreesOutside s (ranges r.written) c) is (subst (λ (rs : List (ℕ × ℕ)). AgreesOutside stood' rs c) same a)

    onto : (c : Content) → AgreesOutside stood (ranges r.written) c → AgreesOutside stood' (ranges r'.written) c
    onto c a = subst (λ (rs : List (ℕ × ℕ)). AgreesOutside stood' rs c) (sym same) (subst (λ (s : Content). AgreesOutside s (ranges r.written) c) (sym is) a)

    had_same : (t : ℕ) (c : Content) → Had (synced_after (take t r'.past) r'.began) (drop t r'.past) c ≡ Had (synced_after (take t r.past) r.began) (drop t r.past) c
    had_same t c = ap (λ (es : List (List Piece)). Had (synced_after (take t es) r'.began) (drop t es) c) past ∙ ap (λ (b : Content). Had (synced_after (take t r.past) b) (drop t r.past) c) began

ranges_push : (ps : List Piece) (p : Piece) → ranges (ps ++ p ∷ []) ≡ ranges ps ++ range p ∷ []
ranges_push ps p = map-append range ps (p ∷ [])

-- a piece more is written
pub passes_range : (now new stood stood' : Content) (r r' : WriteLog) (f g i j : ℕ) (l m : Lent) (p : Piece) → r' ≡ more_written p r → stood' ≡ stood → p.0 + length p.1 ≤ length stood
    → Passes (sim_facts now stood r f i l) (sim_facts new stood' r' g j m) (Torn p.0 (length p.1))
passes_range now new stood stood' r r' f g i j l m p more is within =
    subst (λ (s : Content). Passes (sim_facts now stood r f i l) (sim_facts new s r' g j m) (Torn p.0 (length p.1))) (sym is)
    (subst (λ (q : WriteLog). Passes (sim_facts now stood r f i l) (sim_facts new stood q g j m) (Torn p.0 (length p.1))) (sym more) pushed)
  where
    split : (c : Content) → AgreesOutside stood (ranges (r.written ++ p ∷ [])) c → AgreesOutside stood (ranges r.written ++ range p ∷ []) c
    split c a = subst (λ (rs : List (ℕ × ℕ)). AgreesOutside stood rs c) (ranges_push r.written p) a

    joined : (c : Content) → AgreesOutside stood (ranges r.written) c → AgreesOutside stood (ranges (r.written ++ p ∷ [])) c
    joined c a = subst (λ (rs : List (ℕ × ℕ)). AgreesOutside stood rs c) (sym (ranges_push r.written p)) (agrees_push stood (ranges r.written) (range p) c a)

    step : (c : Content) → AgreesOutside stood (ranges (r.written ++ p ∷ [])) c → LeavesAfter (sim_facts now stood r f i l) (Torn p.0 (length p.1)) c
    step c a = crash_write stood (ranges r.written) p.0 (length p.1) c within (split c a)

    pushed : Passes (sim_facts now stood r f i l) (sim_facts new stood (more_written p r) g j m) (Torn p.0 (length p.1))
    pushed = record {
      later = omega arith;
      now = step;
      nothing_else = λ t c le left. ⊎_elim (λ a. inr (step c a)) (λ had. inl (inr had)) left;
      keeps = λ t c le left. ⊎_elim (λ a. inl (joined c a)) (λ had. inr had) left;
    }

-- a sync more
pub passes_sync : (now stood stood' : Content) (r r' : WriteLog) (f g i j : ℕ) (l : Lent) (next : List Piece) → r' ≡ more_synced now next r → stood' ≡ now → synced_after r.past r.began ≡ stood
    → AgreesOutside stood (ranges r.written) now → AreWithin (length stood) (ranges r.written) → ((k : ℕ) → Untouched (ranges r.written) k → Untouched (ranges next) k)
    → Passes (sim_facts now stood r f i l) (sim_facts now stood' r' g j l) Stays
passes_sync now stood stood' r r' f g i j l next more is stood_so agrees fits fewer =
    subst (λ (s : Content). Passes before (sim_facts now s r' g j l) Stays) (sym is) (subst (λ (q : WriteLog). Passes before (sim_facts now now q g j l) Stays) (sym more) pushed)
  where
    before : Facts
    before = sim_facts now stood r f i l

    epoch : List Piece
    epoch = map (piece_in now) r.written

    same : ranges (map (piece_in now) r.written) ≡ ranges r.written
    same = ranges_copied now r.written (rw agrees.as_long fits)

    began : ℕ → Content
    began t = synced_after (take t r.past) r.began

    at : (t : ℕ) → synced_after (drop t r.past) (synced_after (take t r.past) r.began) ≡ stood
    at t = synced_parts t r.past r.began ∙ stood_so

    from : (t : ℕ) (c : Content) → AgreesOutside (synced_after (drop t r.past) (synced_after (take t r.past) r.began)) (ranges (map (piece_in now) r.written)) c → AgreesOutside stood (ranges r.written) c
    from t c a = subst (λ (rs : List (ℕ × ℕ)). AgreesOutside stood rs c) same (subst (λ (s : Content). AgreesOutside s (ranges (map (piece_in now) r.written)) c) (at t) a)

    into : (t : ℕ) (c : Content) → AgreesOutside stood (ranges r.written) c → AgreesOutside (synced_after (drop t r.past) (synced_after (take t r.past) r.began)) (ranges (map (piece_in now) r.written)) c
    into t c a = subst (λ (s : Content). AgreesOutside s (ranges (map (piece_in now) r.written)) c) (sym (at t)) (subst (λ (rs : List (ℕ × ℕ)). AgreesOutside stood rs c) (sym same) a)

    step : (c : Content) → AgreesOutside now (ranges next) c → LeavesAfter (sim_facts now stood r f i l) Stays c
    step c a = (c, crash_sync stood (ranges r.written) (ranges next) now c agrees fewer a, refl)

    Then : ℕ → Content → Type 0
    Then t c = Had (synced_after (take t r.past) r.began) (drop t r.past ++ map (piece_in now) r.written ∷ []) c

    -- the past from that moment on, with the epoch that has ended
    with_epoch : (t : ℕ) (c : Content) → t ≤ length r.past
        → Had (synced_after (take t (r.past ++ map (piece_in now) r.written ∷ [])) r.began) (drop t (r.past ++ map (piece_in now) r.written ∷ [])) c
        ≡ Had (synced_after (take t r.past) r.began) (drop t r.past ++ map (piece_in now) r.written ∷ []) c
    with_epoch t c le =
        ap (λ (es : List (List Piece)). Had (synced_after es r.began) (drop t (r.past ++ map (piece_in now) r.written ∷ [])) c) (take-append-le t r.past (map (piece_in now) r.written ∷ []) le)
        ∙ ap (λ (es : List (List Piece)). Had (synced_after (take t r.past) r.began) es c) (drop-append-le t r.past (map (piece_in now) r.written ∷ []) le)

    split : (t : ℕ) (c : Content) → Had (synced_after (take t r.past) r.began) (drop t r.past ++ map (piece_in now) r.written ∷ []) c → before.since t c
    split t c had = ⊎_elim (λ h. inr h) (λ a. inl (from t c a)) (had_either (synced_after (take t r.past) r.began) (drop t r.past) (map (piece_in now) r.written) c had)

    joined : (t : ℕ) (c : Content) → before.since t c → Had (synced_after (take t r.past) r.began) (drop t r.past ++ map (piece_in now) r.written ∷ []) c
    joined t c left = ⊎_elim (λ a. had_last (synced_after (take t r.past) r.began) (drop t r.past) (map (piece_in now) r.written) c (into t c a))
        (λ had. had_push (synced_after (take t r.past) r.began) (drop t r.past) (map (piece_in now) r.written) c had) left

    pushed : Passes (sim_facts now stood r f i l) (sim_facts now now (more_synced now next r) g j l) Stays
    pushed = record {
      later = omega (arith, length-append r.past (map (piece_in now) r.written ∷ []));
      now = step;
      nothing_else = λ t c le left. ⊎_elim (λ a. inr (step c a)) (λ had. inl (split t c (subst (λ (T : Type 0). T) (with_epoch t c le) had))) left;
      keeps = λ t c le left. inr (subst (λ (T : Type 0). T) (sym (with_epoch t c le)) (joined t c left));
    }
