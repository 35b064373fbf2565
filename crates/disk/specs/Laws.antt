-- What the laws of a disk ask of its write log.
use Rattle.std.specs.Prelude.{◌⊎◌, ℕ, ◌<◌, ◌≤◌, ◌^◌, List, [], ◌∷◌, length, drop}
use Rattle.std.proofs.Common.{arith}
use mathlib.Core.Logic.{inl, inr}
use Rattle.disk.specs.Facts.{Content, most}
use Rattle.disk.specs.WriteLog.{Piece, Had}

none_left : (stood : Content) (past : List (List Piece)) (c : Content) → Had stood (drop (length past) past) c → ⊥
none_left stood [] c had = had
none_left stood (epoch ∷ past) c had = none_left stood past c had

pub only_the_last : (stood : Content) (past : List (List Piece)) (c : Content) (Now : Type 0)
    → Now ⊎ Had stood (drop (length past) past) c → Now
only_the_last stood past c Now (inl now) = now
only_the_last stood past c Now (inr had) = absurd (none_left stood past c had)

pub below_most : (n : ℕ) → n < 2 ^ 64 → n ≤ most
below_most n less = omega arith
