-- A table of the same pairs, which is made pair by pair.
use Rattle.std.specs.Prelude.{◌≡◌, ℕ, ◌<◌, ◌≤◌, false}
use Rattle.tallies.specs.Notes.{numbers}
use Rattle.tallies.specs.Seats.{numbers_from}
use Rattle.ipi.specs.Ledger.{PendingSeatView}
use Rattle.ipi.specs.Views.{pair_in}

-- The pairs of the targets below t are as they are to be, and of t itself those of the senders below n. No other
-- is pending.
pub record IsMade (harts t n : ℕ) (old c : PendingSeatView) : Type 0 where
  pub numbered : numbers c.harts ≡ numbers_from 0 harts
  pub rows : (sender target : ℕ) → sender < harts → target < t → pair_in c sender target ≡ pair_in old sender target
  pub row : (sender : ℕ) → sender < n → pair_in c sender t ≡ pair_in old sender t
  pub rest : (sender : ℕ) → n ≤ sender → pair_in c sender t ≡ false
  pub none : (sender target : ℕ) → t < target → pair_in c sender target ≡ false
