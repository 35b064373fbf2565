-- What stands in memory comes into the file, sector by sector.
use Rattle.std.proofs.Common.{suc, ◌≡◌, ◌∙◌, ℕ, ◌<◌, ◌+◌, Bool, true, false, List, [], ◌∷◌, length, get_or, Result, Ok, arith, inr, refl, ⊎_elim}
use Rattle.disk.specs.Facts.{Content, Torn, sector}
use Rattle.board_files.specs.Files.{FileFacts, FileKnown, Unknown, Known, IfKnown, Goes, LeavesBut, WritesSector, AgreesOff, LeavesOff, PushesSome, WritesUpTo, WritesMarked}

-- a content that agrees off the marks does so still with other bytes in a sector that is marked
torn_agrees : (marks : List Bool) (content d c : Content) (number : ℕ) → get_or marks number false ≡ true
    → AgreesOff marks content d → Torn number 1 d c → AgreesOff marks content c
torn_agrees marks content d c number marked agrees torn =
    record { as_long = torn.as_long ∙ agrees.as_long; same = λ k free. same k free }
  where
    same : (k : ℕ) → get_or marks k false ≡ false → sector c k ≡ sector content k
    same k free = grind (arith, marked, free, torn.before k, torn.after k, agrees.same k)

but_agrees : (marks : List Bool) (content c : Content) (number : ℕ) (old : FileFacts) → get_or marks number false ≡ true
    → LeavesOff marks content old → LeavesBut number old.may_leave c → AgreesOff marks content c
but_agrees marks content c number old marked leaves but =
    torn_agrees marks content but.0 c number marked (leaves but.0 but.1) but.2

-- a sector more was written, which was marked
pub some_more : {T E : Type 0} (marks : List Bool) (content : Content) (number : ℕ) (bytes : List ℕ) (result : Result T E) (o m n : FileFacts)
    → get_or marks number false ≡ true → m.syncs ≡ o.syncs → PushesSome marks content o m → WritesSector number bytes result m n
    → PushesSome marks content o n
some_more marks content number bytes result o m n marked syncs so_far wrote = record {
  leaves = λ c left. but_agrees marks content c number m marked so_far.leaves (wrote.leaves c left);
  since = λ t c le left. ⊎_elim (so_far.since t c le)
      (λ but. inr (but_agrees marks content c number m marked so_far.leaves but)) (wrote.since t c (rw syncs le) left);
}

-- of a sector that is not marked a read gives what stands in memory
pub writes_skip : (marks : List Bool) (content : Content) (number : ℕ) (o n : FileKnown)
    → IfKnown n (λ f. f.may_leave f.holds) → get_or marks number false ≡ false → Goes o n (WritesUpTo number marks content)
    → Goes o n (WritesUpTo (number + 1) marks content)
writes_skip marks content number Unknown Unknown keep free so_far = tt
writes_skip marks content number Unknown (Known n) keep free so_far = so_far
writes_skip marks content number (Known o) Unknown keep free so_far = so_far
writes_skip marks content number (Known o) (Known n) keep free so_far = record { holds = holds; syncs = so_far.syncs; some = so_far.some }
  where
    holds : (k : ℕ) → k < number + 1 → sector n.holds k ≡ sector content k
    holds k less = grind (arith, less, so_far.holds k, (so_far.some.leaves n.holds keep).same k, free)

pub writes_more : (T E : Type 0) (marks : List Bool) (content : Content) (number : ℕ) (v : T) (o m n : FileKnown)
    → get_or marks number false ≡ true → Goes o m (WritesUpTo number marks content)
    → Goes m n (WritesSector {E = E} number (sector content number) (Ok v)) → Goes o n (WritesUpTo (number + 1) marks content)
writes_more T E marks content number v Unknown Unknown Unknown marked so_far wrote = tt
writes_more T E marks content number v Unknown Unknown (Known n) marked so_far wrote = wrote
writes_more T E marks content number v Unknown (Known m) n marked so_far wrote = absurd so_far
writes_more T E marks content number v (Known o) Unknown n marked so_far wrote = absurd so_far
writes_more T E marks content number v (Known o) (Known m) Unknown marked so_far wrote = wrote
writes_more T E marks content number v (Known o) (Known m) (Known n) marked so_far wrote = record {
  holds = holds;
  syncs = wrote.syncs ∙ so_far.syncs;
  some = (let r : Result T E = Ok v in some_more marks content number (sector content number) r o m n marked so_far.syncs so_far.some wrote);
}
  where
    holds : (k : ℕ) → k < number + 1 → sector n.holds k ≡ sector content k
    holds k less =
        grind (arith, less, so_far.holds k, wrote.written.elsewhere.before k, wrote.written.there 0)

-- a list of as many elements that reads so everywhere
all_same : (xs ys : Content) → length xs ≡ length ys → ((k : ℕ) → k < length ys → sector xs k ≡ sector ys k) → xs ≡ ys
all_same [] [] long same = refl
all_same [] (y ∷ ys) long same = absurd (omega (arith, long))
all_same (x ∷ xs) [] long same = absurd (omega (arith, long))
all_same (x ∷ xs) (y ∷ ys) long same =
    cc (same 0 (omega arith), all_same xs ys (omega (arith, long)) (λ k less. same (suc k) (omega (arith, less))))

pub writes_all : (T E : Type 0) (marks : List Bool) (content : Content) (v : T) (o n : FileKnown)
    → IfKnown n (λ f. f.may_leave f.holds) → Goes o n (WritesUpTo (length content) marks content)
    → Goes o n (WritesMarked {E = E} marks content (Ok v))
writes_all T E marks content v Unknown Unknown keep so_far = tt
writes_all T E marks content v Unknown (Known n) keep so_far = so_far
writes_all T E marks content v (Known o) Unknown keep so_far = so_far
writes_all T E marks content v (Known o) (Known n) keep so_far = record {
  whole = all_same n.holds content (so_far.some.leaves n.holds keep).as_long so_far.holds;
  syncs = so_far.syncs;
  some = so_far.some;
}
