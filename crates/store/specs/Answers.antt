-- What a contract sees of an open store, and what a command does to it.
-- Source: docs/STORE.md, "A commit" and "A life".
use Rattle.std.specs.Prelude.{◌≡◌, ◌≤◌, ℕ, Result, OnOk, IfErr, IsErrOf, MatchResult}
use Rattle.board_model.specs.Durable.{DurableState, Change, after}
use Rattle.board_model.specs.Shapes.{Size}
use Rattle.board_model.specs.declared.refusal.Refusal.{Refusal}
use Rattle.board_model.specs.declared.refusal.Refusal.TheVariants.{Device, Down}
use Rattle.disk.specs.Facts.{Facts, LeavesSince, Failed}
use Rattle.disk.specs.FaultState.{FaultState}
use Rattle.store.specs.Leaves.{IsIdle, SameLength, Leaves, LeavesOnly, LeavesEither, StandsForEither, WroteACommand}
use Rattle.store.specs.Lives.{Life, now_of, begun}
use Rattle.store.specs.Opens.{CausedRefusal}
use Rattle.store.specs.Standing.{StandsFor}

-- what is seen of an open store: its disk, why that failed, the board, the life, and how often the disk had
-- failed at the open
pub record StoreView : Type 1 where
  pub disk : Facts
  pub fault_state : FaultState
  pub size : Size
  pub life : Life
  pub failures_at_open : ℕ

-- What an open made of a disk. A life begins in the state that the disk stands for; a crash just before could
-- have left that state, and each crash leaves it from then on. The disk did not fail.
pub record Opened (disk : Facts) (store : StoreView) : Type 0 where
  pub begins : store.life ≡ begun store.life.found
  pub reads : StandsFor disk.content store.size store.life.found
  pub earlier : Leaves disk store.size store.life.found
  pub only : LeavesOnly store.disk store.size store.life.found
  pub no_failure : store.disk.failures ≡ disk.failures
  pub at_open : store.failures_at_open ≡ disk.failures

-- A command goes to the disk that makes t of s. A crash leaves the one or the other at each moment since its
-- start; t alone once it is acknowledged; s alone after a refusal, and at each moment of it too, but after 6 the one or the other.
pub record GoesTo (old new : Facts) (size : Size) (s t : DurableState) (result : Result ℕ Refusal) : Type 0 where
  pub any_moment : LeavesSince old new (StandsForEither size s t)
  pub acknowledged : OnOk result (LeavesOnly new size t)
  pub unchanged : IfErr result (λ e. (e ≡ Down → ⊥) → LeavesOnly new size s)
  pub still : IfErr result (λ e. (e ≡ Down → ⊥) → LeavesSince old new (λ c. StandsFor c size s))
  pub in_doubt : IsErrOf result Down → LeavesEither new size s t

-- 5 and 6 come only where the disk failed in this call, and with another refusal it did not fail
abbrev pub CountedRefusal : ℕ → Refusal → ℕ → Type 0
CountedRefusal old Device new = Failed old new
CountedRefusal old Down new = Failed old new
CountedRefusal old e new = new ≡ old

-- What a command did that found no other in doubt, where Does is what it makes of the life. Once acknowledged
-- it is written, also where it changes nothing in value; and each failure of the disk is answered, has a
-- cause, and is counted.
pub record Answered (Does : Life → Change → Result ℕ Refusal → Life → Type 0) (old : StoreView) (c : Change)
    (result : Result ℕ Refusal) (new : StoreView) : Type 0 where
  pub life : Does old.life c result new.life
  pub leaves : GoesTo old.disk new.disk old.size (now_of old.life) (after (now_of old.life) c) result
  pub written : OnOk result (WroteACommand old.disk new.disk)
  pub cause : MatchResult result (λ n. new.fault_state ≡ old.fault_state) (λ e. CausedRefusal old.fault_state e
      new.fault_state)
  pub counts : MatchResult result (λ n. new.disk.failures ≡ old.disk.failures) (λ e. CountedRefusal old.disk.failures e
      new.disk.failures)

-- whatever a command answers: the board stays, its disk is as long, nothing of it is lent, and no failure is
-- forgotten
pub record StaysOpen (old new : StoreView) : Type 0 where
  pub board : new.size ≡ old.size
  pub length : SameLength old.disk new.disk
  pub none_out : IsIdle new.disk
  pub no_fewer : old.disk.failures ≤ new.disk.failures
  pub opened : new.failures_at_open ≡ old.failures_at_open
