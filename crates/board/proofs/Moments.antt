-- What a crash may leave from an open to the end of a power-on.
use Rattle.std.proofs.Common.{inl, inr, List, [], ◌∷◌}
use Rattle.disk.specs.Facts.{Content, Facts, LeavesSince, Passes, Stays, Unchanged}
use Rattle.disk.specs.Moments.{passes_unchanged, leaves_none, leaves_stays, leaves_then, leaves_weaker}
use Rattle.board_model.specs.{Durable.{DurableState, Change}, Shapes.Size}
use Rattle.store.{specs.Leaves.LeftAsBefore, proofs.Renewing.left_then}
use Rattle.board.specs.Moments.{MayLeave}

-- what is asked of a disk: that moment is now
abbrev pub IsNow : Facts → Type 0
IsNow a = (c : Content) → a.since a.moment c → a.may_leave c

before_it : (a : Facts) (size : Size) (s : DurableState) (sent : List Change) (c : Content) → LeftAsBefore a c → MayLeave a size s sent c
before_it a size s [] c left = left
before_it a size s (change ∷ more) c left = inl left

-- no command went to the disk
pub untouched_moments : (a b : Facts) (size : Size) (s : DurableState) (sent : List Change) → IsNow a → Passes a b Stays → LeavesSince a b (MayLeave a size s sent)
untouched_moments a b size s sent now passes =
    let P : Content → Type 0 = MayLeave a size s sent in
    leaves_stays a a b P (leaves_none a P now (λ x left. before_it a size s sent x (inl left))) passes

-- an open, and then what a boot does
pub meanwhile : (a b c : Facts) (size : Size) (s : DurableState) (sent : List Change) → LeavesSince a b (LeftAsBefore a) → LeavesSince b c (MayLeave b size s sent) → LeavesSince a c (MayLeave a size s sent)
meanwhile a b c size s sent opened on =
    let P : Content → Type 0 = MayLeave a size s sent in
    leaves_then a b c P (leaves_weaker a b (LeftAsBefore a) P opened (before_it a size s sent)) (leaves_weaker b c (MayLeave b size s sent) P on (earlier sent))
  where
    earlier : (sent : List Change) (x : Content) → MayLeave b size s sent x → MayLeave a size s sent x
    earlier [] x left = left_then a b opened.now x left
    earlier (change ∷ more) x (inl left) = inl (left_then a b opened.now x left)
    earlier (change ∷ more) x (inr stands) = inr stands

-- and then the disk is given back as it is
pub kept_meanwhile : (a b c d : Facts) (size : Size) (s : DurableState) (sent : List Change) → LeavesSince a b (LeftAsBefore a) → LeavesSince b c (MayLeave b size s sent) → Unchanged c d → LeavesSince a d (MayLeave a size s sent)
kept_meanwhile a b c d size s sent opened on same = leaves_stays a c d (MayLeave a size s sent) (meanwhile a b c size s sent opened on) (passes_unchanged c d same)
