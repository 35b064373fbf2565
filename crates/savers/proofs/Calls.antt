-- The calls of savers.
use Rattle.std.proofs.Common.{◌≡◌, ℕ, ◌++◌, inl, inr, arith}
use Rattle.board_model.specs.Shapes.{Size}
use Rattle.disk.specs.Facts.{LaneFacts}
use Rattle.savers.specs.Calls.{filling_calls, IsFilledBy}

-- no call failed
pub all_filled : (size : Size) (filled : ℕ) (old new : LaneFacts) → IsFilledBy size filled old new → new.failures ≡ 0 → new.calls ≡ old.calls ++ filling_calls filled
all_filled size filled old new by none = elim by.made [
  | inl whole ↦ whole.1
  | inr stop ↦ absurd (omega (arith, stop.0, none))
]
