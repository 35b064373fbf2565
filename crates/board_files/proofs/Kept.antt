-- The marks, the file and the disk in memory stay as one another, over each call of the disk.
use Rattle.std.proofs.Common.{suc, ◌≡◌, ◌∙◌, ℕ, ◌<◌, ◌≤◌, ◌+◌, ◌-◌, ◌*◌, Bool, false, List, [], ◌∷◌, ◌++◌, length, get_or, replicate, Result, Ok, Err, ◌⊎◌, ap, arith, inl, inr, refl, sym, subst, ⊎_elim, zero}
use Rattle.std.proofs.lemmas.{List.{map-append, length-append, length-replicate}, Bool.{cases_lt, false≢true, false_from_ne_true}}
use Rattle.std.{proofs.Math.Logic.∥∥₁_map, specs.Prelude.{OnErr, OnOk, map}}
use Rattle.disk.specs.Facts.{Content, Facts, Only, Torn, Passes, Lent, lent_sectors, nothing, sector}
use Rattle.disk.specs.WriteLog.{WriteLog, Piece, Untouched, AgreesOutside, NotedOrRefused, more_synced, more_written, piece_in, ranges, range}
use Rattle.board_files.specs.Files.{FileFacts, FileKnown, Unknown, Known, IfKnown, Goes, IsDurable, IsMarked, AgreesOff, LeavesNoMore, AllowedSince, EverAllowed, IsKeptIn, AreMarks, Marks, Pushes, PushesSome}

-- ---- the ranges
untouched_before : (rs more : List (ℕ × ℕ)) (k : ℕ) → Untouched (rs ++ more) k → Untouched rs k
untouched_before [] more k free = tt
untouched_before (r ∷ rs) more k free = (free.0, untouched_before rs more k free.1)

untouched_behind : (rs more : List (ℕ × ℕ)) (k : ℕ) → Untouched (rs ++ more) k → Untouched more k
untouched_behind [] more k free = free
untouched_behind (r ∷ rs) more k free = untouched_behind rs more k free.1

-- a sector that is free once a piece more is written was free before, and is not in that piece
pub more_free : (piece : Piece) (old new : WriteLog) (k : ℕ) → new ≡ more_written piece old → Untouched (ranges new.written) k
    → Untouched (ranges old.written) k × ((k < piece.0) ⊎ (piece.0 + length piece.1 ≤ k))
more_free piece old new k is free =
    let all : Untouched (ranges old.written ++ range piece ∷ []) k =
    subst (λ (rs : List (ℕ × ℕ)). Untouched rs k)
    (ap (λ (r : WriteLog). ranges r.written) is ∙ map-append range old.written (piece ∷ [])) free in (
      untouched_before (ranges old.written) (range piece ∷ []) k all,
      (untouched_behind (ranges old.written) (range piece ∷ []) k all).0,
    )

pub noted_free : (piece : Piece) (old new : WriteLog) (own own' k : ℕ) → NotedOrRefused piece old new own own'
    → Untouched (ranges new.written) k → Untouched (ranges old.written) k
noted_free piece old new own own' k (inl is) free = (more_free piece old new k is free).0
noted_free piece old new own own' k (inr stays) free = subst (λ (r : WriteLog). Untouched (ranges r.written) k) stays.0 free

-- ---- where a sector is
two_sides : (k from : ℕ) → (k < from) ⊎ (from ≤ k)
two_sides k from = grind arith

three_sides : (k from n : ℕ) → (k < from) ⊎ (from + n ≤ k) ⊎ ((from ≤ k) × (k < from + n))
three_sides k from n = grind arith

some_or_none : (n : ℕ) → (n ≡ 0) ⊎ (0 < n)
some_or_none n = grind arith

-- ---- the marks
none_marked : (n k : ℕ) → get_or (replicate n false) k false ≡ false
none_marked zero k = refl
none_marked (suc n) zero = refl
none_marked (suc n) (suc k) = none_marked n k

pub marks_none : (disk : Facts) (rs : List (ℕ × ℕ)) (marks : List Bool) → marks ≡ replicate (length disk.content) false
    → disk.lent.lanes ≡ 0 → AreMarks marks 0 0 disk rs
marks_none disk rs marks none idle = rw none (record {
  as_long = length-replicate _ _;
  written = λ k marked free. false≢true (sym (none_marked (length disk.content) k) ∙ marked);
  lent = grind (arith, idle);
  there = λ some. absurd (omega (arith, some));
  within = omega arith;
})

pub marks_stay : (marks : List Bool) (from n : ℕ) (old new : Facts) (r s : List (ℕ × ℕ)) → AreMarks marks from n old r
    → new.content ≡ old.content → new.lent ≡ old.lent → ((k : ℕ) → Untouched s k → Untouched r k)
    → AreMarks marks from n new s
marks_stay marks from n old new r s are content lent free = record {
  as_long = are.as_long ∙ sym (ap length content);
  written = λ k marked none. are.written k marked (free k none);
  lent = are.lent ∙ sym (ap lent_sectors lent);
  there = λ some. are.there some ∙ sym (ap (λ (l : Lent). l.first) lent);
  within = are.within;
}

-- a write, which is marked
pub marks_written : (marks marks' : List Bool) (from n first count : ℕ) (old new : Facts) (r s : List (ℕ × ℕ)) → AreMarks marks from n old r
    → Marks first count marks marks' → length new.content ≡ length old.content → new.lent ≡ old.lent
    → ((k : ℕ) → Untouched s k → Untouched r k × ((k < first) ⊎ (first + count ≤ k))) → AreMarks marks' from n new s
marks_written marks marks' from n first count old new r s are marked long lent free = record {
  as_long = marked.as_long ∙ are.as_long ∙ sym long;
  written = λ k is none. was k is (free k none).0 (free k none).1;
  lent = are.lent ∙ sym (ap lent_sectors lent);
  there = λ some. are.there some ∙ sym (ap (λ (l : Lent). l.first) lent);
  within = omega (arith, are.within, marked.as_long);
}
  where
    was : (k : ℕ) → IsMarked marks' k → Untouched r k → ((k < first) ⊎ (first + count ≤ k)) → ⊥
    was k is none (inl low) = are.written k (sym (marked.before k low) ∙ is) none
    was k is none (inr high) = are.written k (sym (marked.after k high) ∙ is) none

-- a split: what is lent is written
pub marks_lent : (marks : List Bool) (from n first lanes each : ℕ) (old new : Facts) (r s : List (ℕ × ℕ)) → AreMarks marks from n old r
    → new.content ≡ old.content → new.lent ≡ record { first = first; lanes = lanes; each = each }
    → first + lanes * each ≤ length old.content → ((k : ℕ) → Untouched s k → Untouched r k)
    → AreMarks marks first (lanes * each) new s
marks_lent marks from n first lanes each old new r s are content lent within free = record {
  as_long = are.as_long ∙ sym (ap length content);
  written = λ k marked none. are.written k marked (free k none);
  lent = sym (ap lent_sectors lent);
  there = λ some. sym (ap (λ (l : Lent). l.first) lent);
  within = omega (arith, within, are.as_long);
}

-- a join: what was lent is marked, and was written
pub marks_joined : (marks marks' : List Bool) (from n : ℕ) (old new : Facts) (r s : List (ℕ × ℕ)) → AreMarks marks from n old r
    → Marks from n marks marks' → length new.content ≡ length old.content → new.lent ≡ nothing → s ≡ r
    → ((k : ℕ) → old.lent.first ≤ k → k < old.lent.first + lent_sectors old.lent → Untouched r k → ⊥) → AreMarks marks' 0 0 new s
marks_joined marks marks' from n old new r s are marked long back same noted = record {
  as_long = marked.as_long ∙ are.as_long ∙ sym long;
  written = λ k is none. was k is (subst (λ (x : List (ℕ × ℕ)). Untouched x k) same none);
  lent = sym (ap lent_sectors back);
  there = λ some. absurd (omega (arith, some));
  within = omega arith;
}
  where
    lent_noted : (k : ℕ) → from ≤ k → k < from + n → Untouched r k → ⊥
    lent_noted k low high =
        let first = are.there (omega (arith, low, high)) in
        noted k (omega (arith, first, low)) (omega (arith, first, high, are.lent))

    where_is : (k : ℕ) → (k < from) ⊎ (from + n ≤ k) ⊎ ((from ≤ k) × (k < from + n))
    where_is k = three_sides k from n

    was : (k : ℕ) → IsMarked marks' k → Untouched r k → ⊥
    was k is none = ⊎_elim
        (λ low. are.written k (sym (marked.before k low) ∙ is) none)
        (λ rest. ⊎_elim
        (λ high. are.written k (sym (marked.after k high) ∙ is) none)
        (λ in_it. lent_noted k in_it.0 in_it.1 none)
        rest)
        (where_is k)

-- ---- the file
-- the file stays as it was, the disk went on, and what is not marked stays in memory
pub kept_on : (file : FileKnown) (marks marks' : List Bool) (old new : Facts) (step : Content → Content → Type 0)
    → IfKnown file (IsKeptIn marks old) → Passes old new step → new.moment ≡ old.moment → length new.content ≡ length old.content
    → ((k : ℕ) → get_or marks' k false ≡ false → (get_or marks k false ≡ false) × (sector new.content k ≡ sector old.content k))
    → IfKnown file (IsKeptIn marks' new)
kept_on Unknown marks marks' old new step kept passes moment long spared = tt
kept_on (Known f) marks marks' old new step kept passes moment long spared = record {
  now = λ c left. record {
    as_long = (kept.now c left).as_long ∙ sym long;
    same = λ k free. (kept.now c left).same k (spared k free).0 ∙ sym (spared k free).1;
  };
  ever = λ c left. ever_on c (kept.ever c left);
  since = λ t c le left. ∥∥₁_map (kept.since t c (rw (← moment) le) (subst (λ (m : ℕ). f.since (f.syncs - (m - t)) c) moment left))
      (λ past. passes.keeps t c (rw (← moment) le) past);
}
  where
    ever_on : (c : Content) → ∥ old.since 0 c ∥₁ → ∥ new.since 0 c ∥₁
    ever_on c was = ∥∥₁_map was (λ past. passes.keeps 0 c (omega arith) past)

-- the marks of the sectors that are not marked anew, and what stands there
abbrev Spares : List Bool → List Bool → Content → Content → Type 0
Spares marks marks' old new =
    (k : ℕ) → get_or marks' k false ≡ false → (get_or marks k false ≡ false) × (sector new k ≡ sector old k)

pub spares_all : (marks : List Bool) (old new : Content) → new ≡ old → Spares marks marks old new
spares_all marks old new same k free = (free, ap (λ (c : Content). sector c k) same)

outside : (marks marks' : List Bool) (first count from n : ℕ) (old new : Content) → Marks first count marks marks' → Torn from n old new
    → n ≡ count → (0 < count → first ≡ from) → Spares marks marks' old new
outside marks marks' first count from n old new marked torn as_many there k free =
    ⊎_elim
    (λ low. (sym (marked.before k low) ∙ free, before low))
    (λ rest. ⊎_elim
    (λ high. (sym (marked.after k high) ∙ free, after high))
    (λ in_it. absurd (false≢true (sym free ∙ marked.there k in_it.0 in_it.1)))
    rest)
    where_is
  where
    where_is : (k < first) ⊎ (first + count ≤ k) ⊎ ((first ≤ k) × (k < first + count))
    where_is = three_sides k first count

    torn_none : count ≡ 0 → sector new k ≡ sector old k
    torn_none zero_many = ⊎_elim (λ low. torn.before k low) (λ high. torn.after k (omega (arith, high, zero_many, as_many))) (two_sides k from)

    before : k < first → sector new k ≡ sector old k
    before low = ⊎_elim torn_none (λ some. torn.before k (omega (arith, low, there some))) (some_or_none count)

    after : first + count ≤ k → sector new k ≡ sector old k
    after high = ⊎_elim torn_none (λ some. torn.after k (omega (arith, high, there some, as_many))) (some_or_none count)

pub spares_written : (marks marks' : List Bool) (first count : ℕ) (old new : Content) → Marks first count marks marks' → Torn first count old new
    → Spares marks marks' old new
spares_written marks marks' first count old new marked torn =
    outside marks marks' first count first count old new marked torn refl (λ _. refl)

pub spares_joined : (marks marks' : List Bool) (from n : ℕ) (disk : Facts) (r : List (ℕ × ℕ)) (new : Content) → AreMarks marks from n disk r
    → Marks from n marks marks' → Torn disk.lent.first (lent_sectors disk.lent) disk.content new → Spares marks marks' disk.content new
spares_joined marks marks' from n disk r new are marked torn =
    outside marks marks' from n disk.lent.first (lent_sectors disk.lent) disk.content new marked torn (sym are.lent) are.there

-- ---- what the disk may leave
-- what agrees with the content in memory but for the marks is left by a crash of the disk too
pub off_is_left : (marks : List Bool) (from n : ℕ) (disk : Facts) (stood : Content) (rs : List (ℕ × ℕ)) → AreMarks marks from n disk rs
    → AgreesOutside stood rs disk.content → (c : Content) → AgreesOff marks disk.content c → AgreesOutside stood rs c
off_is_left marks from n disk stood rs are reads c agrees = record {
  as_long = agrees.as_long ∙ reads.as_long;
  same = λ k free. agrees.same k (false_from_ne_true (get_or marks k false) (λ marked. are.written k marked free)) ∙ reads.same k free;
}

pub leaves_no_more : (file : FileKnown) (marks : List Bool) (disk facts : Facts) → IfKnown file (IsKeptIn marks disk)
    → ((c : Content) → AgreesOff marks disk.content c → facts.may_leave c) → IfKnown file (LeavesNoMore facts)
leaves_no_more Unknown marks disk facts kept left = tt
leaves_no_more (Known f) marks disk facts kept left = λ c may. left c (kept.now c may)

pub since_allowed : (file : FileKnown) (marks : List Bool) (disk : Facts) → IfKnown file (IsKeptIn marks disk) → IfKnown file (AllowedSince disk)
since_allowed Unknown marks disk kept = tt
since_allowed (Known f) marks disk kept = kept.since

pub kept_begun : (file : FileKnown) (marks : List Bool) (disk : Facts) → IfKnown file (IsDurable disk.content)
    → ((t : ℕ) → t ≤ disk.moment → disk.since t disk.content) → IfKnown file (IsKeptIn marks disk)
kept_begun Unknown marks disk durable was = tt
kept_begun (Known f) marks disk durable was = record {
  now = λ c left. record {
    as_long = ap length (durable.now c left);
    same = λ k free. ap (λ (x : Content). sector x k) (durable.now c left);
  };
  ever = λ c left. ∣ subst (λ (x : Content). disk.since 0 x) (sym (durable.ever 0 c left)) (was 0 (omega arith)) ∣₁;
  since = λ t c le left. ∣ subst (λ (x : Content). disk.since t x) (sym (durable.ever (f.syncs - (disk.moment - t)) c left)) (was t le) ∣₁;
}

-- ---- moments, which are a disk's syncs
pub noted_moment : (piece : Piece) (old new : WriteLog) (own own' : ℕ) → NotedOrRefused piece old new own own' → length new.past ≡ length old.past
noted_moment piece old new own own' (inl is) = ap (λ (r : WriteLog). length r.past) is
noted_moment piece old new own own' (inr stays) = ap (λ (r : WriteLog). length r.past) stays.0

pub one_moment : {T E : Type 0} (result : Result T E) (content : Content) (pieces : List Piece) (old new : WriteLog) → OnOk result (new ≡ more_synced content pieces old) → OnErr result (new ≡ old)
    → length new.past ≤ length old.past + 1
one_moment (Ok v) content pieces old new is failed =
    let e = ap (λ (r : WriteLog). length r.past) is in
    let long = length-append old.past (map (piece_in content) old.written ∷ []) in omega (arith, e, long)
one_moment (Err x) content pieces old new is failed = let e = ap (λ (r : WriteLog). length r.past) failed in omega (arith, e)

-- ---- a sync
off_then : (marks : List Bool) (disk new : Facts) (o n : FileFacts) → IsKeptIn marks disk o → PushesSome marks disk.content o n
    → ((c : Content) → AgreesOff marks disk.content c → disk.since 0 c)
    → ((c : Content) → disk.since 0 c → new.since 0 c) → EverAllowed new n
off_then marks disk new o n kept some left goes c was =
    ⊎_elim (λ before. ∥∥₁_map (kept.ever c before) (goes c)) (λ off. ∣ goes c (left c off) ∣₁) (some.since 0 c (omega arith) was)

-- what a crash has left in the file since some sync of it, which was not the last, the disk might have left
off_since : (marks : List Bool) (disk : Facts) (o n : FileFacts) → IsKeptIn marks disk o → PushesSome marks disk.content o n
    → ((t : ℕ) (c : Content) → t ≤ disk.moment → AgreesOff marks disk.content c → disk.since t c)
    → ((t u : ℕ) (c : Content) → t ≤ u → o.since u c → o.since t c)
    → (t u : ℕ) (c : Content) → t ≤ disk.moment → u ≤ o.syncs → o.syncs - (disk.moment - t) ≤ u → n.since u c → ∥ disk.since t c ∥₁
off_since marks disk o n kept some left earlier t u c le old first was =
    ⊎_elim (λ before. kept.since t c le (earlier (o.syncs - (disk.moment - t)) u c first before)) (λ off. ∣ left t c le off ∣₁) (some.since u c old was)

pub kept_pushed : (T E : Type 0) (marks : List Bool) (disk : Facts) (e : E) (o n : FileKnown) → IfKnown o (IsKeptIn marks disk)
    → Goes o n (Pushes {T = T} marks disk.content (Err e)) → ((t : ℕ) (c : Content) → t ≤ disk.moment → AgreesOff marks disk.content c → disk.since t c)
    → IfKnown o (λ f. (t u : ℕ) (c : Content) → t ≤ u → f.since u c → f.since t c)
    → IfKnown n (IsKeptIn marks disk)
kept_pushed T E marks disk e Unknown Unknown kept pushed left earlier = tt
kept_pushed T E marks disk e Unknown (Known n) kept pushed left earlier = absurd pushed
kept_pushed T E marks disk e (Known o) Unknown kept pushed left earlier = absurd pushed
kept_pushed T E marks disk e (Known o) (Known n) kept pushed left earlier = record {
  now = pushed.some.leaves;
  ever = off_then marks disk disk o n kept pushed.some (λ c off. left 0 c (omega arith) off) (λ c was. was);
  since = λ t c le was. let syncs : n.syncs ≡ o.syncs = pushed.syncs in off_since marks disk o n kept pushed.some left earlier t (n.syncs - (disk.moment - t)) c le (omega (arith, syncs)) (omega (arith, syncs)) was;
}

pub kept_synced : (T E : Type 0) (marks marks' : List Bool) (disk new : Facts) (step : Content → Content → Type 0) (v : T) (o n : FileKnown)
    → IfKnown o (IsKeptIn marks disk)
    → Goes o n (Pushes {E = E} marks disk.content (Ok v)) → ((t : ℕ) (c : Content) → t ≤ disk.moment → AgreesOff marks disk.content c → disk.since t c)
    → IfKnown o (λ f. (t u : ℕ) (c : Content) → t ≤ u → f.since u c → f.since t c) → new.since new.moment new.content → new.moment ≤ disk.moment + 1
    → Passes disk new step → new.content ≡ disk.content → IfKnown n (IsKeptIn marks' new)
kept_synced T E marks marks' disk new step v Unknown Unknown kept pushed left earlier here one passes same = tt
kept_synced T E marks marks' disk new step v Unknown (Known n) kept pushed left earlier here one passes same = absurd pushed
kept_synced T E marks marks' disk new step v (Known o) Unknown kept pushed left earlier here one passes same = absurd pushed
kept_synced T E marks marks' disk new step v (Known o) (Known n) kept pushed left earlier here one passes same = record {
  now = λ c may. record {
    as_long = ap length (pushed.durable c may ∙ sym same);
    same = λ k free. ap (λ (x : Content). sector x k) (pushed.durable c may ∙ sym same);
  };
  ever = off_then marks disk new o n kept pushed.some (λ c off. left 0 c (omega arith) off) (λ c was. passes.keeps 0 c (omega arith) was);
  since = λ t c le was. since t c le was (cases_lt t new.moment);
}
  where
    syncs : n.syncs ≡ o.syncs + 1
    syncs = pushed.syncs

    later : disk.moment ≤ new.moment
    later = passes.later

    before : (t : ℕ) (c : Content) → t ≤ new.moment → n.since (n.syncs - (new.moment - t)) c → t < new.moment → ∥ new.since t c ∥₁
    before t c le was less =
        let old : t ≤ disk.moment = omega (arith, less, one) in
        ∥∥₁_map (off_since marks disk o n kept pushed.some left earlier t (n.syncs - (new.moment - t)) c old (omega (arith, syncs, less)) (omega (arith, syncs, less, one, later)) was)
        (λ past. passes.keeps t c old past)

    at : (t : ℕ) (c : Content) → t ≡ new.moment → n.since (n.syncs - (new.moment - t)) c → ∥ new.since t c ∥₁
    at t c is was =
        let none : n.syncs - (new.moment - t) ≡ n.syncs = omega (arith, is) in
        let reads : c ≡ new.content = pushed.fresh c (subst (λ (u : ℕ). n.since u c) none was) ∙ sym same in
        ∣ subst (λ (x : Content). new.since t x) (sym reads) (subst (λ (u : ℕ). new.since u new.content) (sym is) here) ∣₁

    since : (t : ℕ) (c : Content) → t ≤ new.moment → n.since (n.syncs - (new.moment - t)) c → (t < new.moment) ⊎ (new.moment ≤ t) → ∥ new.since t c ∥₁
    since t c le was (inl less) = before t c le was less
    since t c le was (inr more) = at t c (omega (arith, le, more)) was

pub only_left : (T E : Type 0) (marks : List Bool) (content now : Content) (v : T) (o n : FileKnown)
    → Goes o n (Pushes {E = E} marks content (Ok v)) → now ≡ content → IfKnown n (λ f. Only now f.may_leave)
only_left T E marks content now v Unknown Unknown pushed same = tt
only_left T E marks content now v Unknown (Known n) pushed same = absurd pushed
only_left T E marks content now v (Known o) Unknown pushed same = absurd pushed
only_left T E marks content now v (Known o) (Known n) pushed same = λ c may. pushed.durable c may ∙ sym same

-- what holds in any case holds with Ok
pub on_ok : {T E : Type 0} (result : Result T E) (P : Type 0) → P → OnOk result P
on_ok (Ok v) P holds = holds
on_ok (Err e) P holds = tt

-- ---- the same marks under another name
pub marks_moved : (m m' : List Bool) (from n : ℕ) (disk : Facts) (rs : List (ℕ × ℕ)) → m ≡ m' → AreMarks m' from n disk rs
    → AreMarks m from n disk rs
marks_moved m m' from n disk rs same are = subst (λ (x : List Bool). AreMarks x from n disk rs) (sym same) are

pub kept_moved : (file : FileKnown) (m m' : List Bool) (disk : Facts) → m ≡ m' → IfKnown file (IsKeptIn m' disk)
    → IfKnown file (IsKeptIn m disk)
kept_moved file m m' disk same kept = subst (λ (x : List Bool). IfKnown file (IsKeptIn x disk)) (sym same) kept

pub marks_from : (first count : ℕ) (m m' new : List Bool) → m ≡ m' → Marks first count m new → Marks first count m' new
marks_from first count m m' new same marked = subst (λ (x : List Bool). Marks first count x new) same marked

pub pushes_as : {T E : Type 0} (m m' : List Bool) (c c' : Content) (result : Result T E) (o n : FileKnown) → m ≡ m' → c ≡ c'
    → Goes o n (Pushes m c result) → Goes o n (Pushes m' c' result)
pushes_as m m' c c' result o n marks content pushed =
    subst (λ (x : List Bool). Goes o n (Pushes x c' result)) marks
    (subst (λ (x : Content). Goes o n (Pushes m x result)) content pushed)

-- a sync, after which none is marked
pub marks_cleared : (m marks : List Bool) (many from n : ℕ) (old new : Facts) (r s : List (ℕ × ℕ)) → m ≡ replicate many false
    → many ≡ length marks → AreMarks marks from n old r → new.content ≡ old.content → new.lent ≡ old.lent → AreMarks m from n new s
marks_cleared m marks many from n old new r s none long are content lent = rw none (record {
  as_long = length-replicate _ _ ∙ long ∙ are.as_long ∙ sym (ap length content);
  written = λ k marked free. false≢true (sym (none_marked many k) ∙ marked);
  lent = are.lent ∙ sym (ap lent_sectors lent);
  there = λ some. are.there some ∙ sym (ap (λ (l : Lent). l.first) lent);
  within = omega (arith, are.within, long, length-replicate many false);
})
