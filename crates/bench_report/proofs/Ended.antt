-- What a life that ends leaves on its disk.
use Rattle.std.proofs.Common.{◌≡◌, ◌⊎◌, ℕ, inl, inr, List, [], ◌∷◌, ◌++◌, Option, None, Some, refl, sym, ◌∙◌, ap, subst}
use Rattle.board_model.specs.{Durable.{DurableState, Change, formatted, refusal_of, after}, Kept.{Kept, MayFind, TakesIn, found_of}}
use Rattle.board_model.specs.Shapes.{Size}
use Rattle.disk.specs.Facts.{Facts, Content, IsLeft}
use Rattle.store.specs.{Leaves.{Leaves, IsKept, LeavesOnly, LeavesEither}, Views.{Stands, Doubts, now_state, doubt_of}}
use Rattle.simdisk.specs.declared.SimDisk.{SimDisk}
use Rattle.bench_report.specs.{Views.{facts, SimStore, SimBoard, store_in, IsAs, store_size}, Agree.{StoreIs, BoardIs, DiskIs, IsOver}}
use Rattle.bench_report.{specs.Bench.{DiskState, Blank, Unknown, Formatted, BenchLife}, proofs.KeptDisks.{GoesOn, LeavesLess}}
use Rattle.bench_report.proofs.Sides.{LeavesFewer}
use Rattle.board.proofs.Issued.{fold_more}

pub found_more : (cs : List Change) (c : Change) (now : DurableState) → now ≡ found_of cs → after now c ≡ found_of (cs ++ c ∷ [])
found_more cs c now e = ap (λ s. after s c) e ∙ sym (fold_more formatted cs (c ∷ []))

-- the table does not refuse the command that a store has in doubt
abbrev pub IsAllowed : SimStore → Type 0
IsAllowed store = (c : Change) → doubt_of store ≡ Some c → refusal_of (now_state store) c ≡ None

-- what a crash leaves of the disk of a store that was up, and of one that was down
abbrev pub LeftUp : SimStore → Facts → Type 0
LeftUp store disk = (s : DurableState) → Stands store s → LeavesOnly disk (store_size store) s

abbrev pub LeftDown : SimStore → Facts → Type 0
LeftDown store disk = (s t : DurableState) → Doubts store s t → LeavesEither disk (store_size store) s t

with_doubt : (k : Kept) (c : Change) (now u : DurableState) → k.doubt ≡ Some c → now ≡ found_of k.changes → refusal_of now c ≡ None → (u ≡ now) ⊎ (u ≡ after now c) → MayFind k u
with_doubt k c now u doubt same allowed (inl e) = (k.changes, inl refl, e ∙ same)
with_doubt k c now u doubt same allowed (inr e) =
    let Q : DurableState → Type 0 = λ s. refusal_of s c ≡ None in
    let P : Option Change → Type 0 = λ d. TakesIn d k.changes (k.changes ++ c ∷ []) in
    (k.changes ++ c ∷ [], inr (subst P (sym doubt) (subst Q same allowed, refl)), e ∙ found_more k.changes c now same)

-- a crash leaves the state that the commands kept make, or that with the one in doubt
pub left_only : (size z : Size) (k : Kept) (now : DurableState) (disk : Facts) → now ≡ found_of k.changes → z ≡ size → LeavesOnly disk z now → DiskIs size Formatted k disk
left_only size z k now disk same sized l =
    let P : Size → Type 0 = λ y. IsKept disk y × ((s : DurableState) → Leaves disk y s → MayFind k s) in
    subst P sized (l.kept, λ s h. (k.changes, inl refl, (l.only z s h).1 ∙ same))

pub left_either : (size z : Size) (k : Kept) (c : Change) (now : DurableState) (disk : Facts) → k.doubt ≡ Some c → now ≡ found_of k.changes → refusal_of now c ≡ None → z ≡ size → LeavesEither disk z now (after now c)
    → DiskIs size Formatted k disk
left_either size z k c now disk doubt same allowed sized l =
    let P : Size → Type 0 = λ y. IsKept disk y × ((s : DurableState) → Leaves disk y s → MayFind k s) in
    subst P sized (l.kept, λ s h. with_doubt k c now s doubt same allowed (l.only z s h).1)

left : (size : Size) (k : Kept) (now : DurableState) (count : ℕ) (doubt : Option Change) (store : SimStore) (disk : Facts) → k.doubt ≡ doubt → now ≡ found_of k.changes → store_size store ≡ size
    → IsAs store now count doubt → LeftUp store disk → LeftDown store disk → IsAllowed store → DiskIs size Formatted k disk
left size k now count None store disk doubt same sized is up down allowed = left_only size (store_size store) k now disk same sized (up now (is.2, sym is.0))
left size k now count (Some c) store disk doubt same sized is up down allowed =
    let P : DurableState → Type 0 = λ s. refusal_of s c ≡ None in
    left_either size (store_size store) k c now disk doubt same (subst P is.0 (allowed c is.2)) sized (down now (after now c) (c, is.2, sym is.0, refl))

pub ended : (size : Size) (m : DiskState) (k : Kept) (life : BenchLife) (store : SimStore) (disk : Facts) → StoreIs size m k life store → LeftUp store disk → LeftDown store disk → IsAllowed store
    → DiskIs size m k disk
ended size Blank k life store disk was up down allowed = absurd was.0
ended size Unknown k life store disk was up down allowed = tt
ended size Formatted k life store disk was up down allowed =
    left size k life.now life.receipts life.doubt store disk was.0.0 was.0.1 was.0.2 was.1 up down allowed

-- that of a life which its own command ended
pub over_ended : (size : Size) (m : DiskState) (k : Kept) (store : SimStore) (disk : Facts) → IsOver size m k store → LeftUp store disk → DiskIs size m k disk
over_ended size Blank k store disk was up = absurd was
over_ended size Unknown k store disk was up = tt
over_ended size Formatted k store disk was up = left_only size (store_size store) k (now_state store) disk was.1 was.2 (up (now_state store) (was.3, refl))

pub board_ended : (size : Size) (m : DiskState) (k : Kept) (p : Option BenchLife) (board : SimBoard) (disk : Facts) → BoardIs size m k p board → LeftUp (store_in board) disk → LeftDown (store_in board) disk
    → IsAllowed (store_in board) → DiskIs size m k disk
board_ended size m k None board disk was up down allowed = absurd was
board_ended size m k (Some life) board disk was up down allowed = ended size m k life (store_in board) disk was.0 up down allowed

-- where no other content may be left than before, but for its state in a record of version 2, the disk state is the
-- same
pub left_on : GoesOn → (size : Size) (m : DiskState) (k : Kept) (old new : SimDisk) → DiskIs size m k (facts old) → LeavesLess old new → DiskIs size m k (facts new)
left_on goes_on size Blank k old new was less = (goes_on old new less).0 was
left_on goes_on size Unknown k old new was less = tt
left_on goes_on size Formatted k old new was less = let on = goes_on old new less in (on.1 size was.0, λ s l. was.1 s (on.2 size s l))

-- a power cut leaves one of the contents that it may leave, and that alone from then on
pub cut_leaves : (old new : SimDisk) → IsLeft (facts old) (facts new) → LeavesFewer (facts old) (facts new)
cut_leaves old new h c l =
    let P : Content → Type 0 = λ x. (facts old).may_leave x in
    subst P (sym (h.fresh.durable c l ∙ h.fresh.reads)) h.left
