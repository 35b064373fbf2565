-- Registers that are left out: a board stands for each that holds something else in them.
use Rattle.std.specs.Prelude.{◌≡◌, ◌⊎◌, ℕ, zero, suc, ◌<◌, length, slice_index}
use Rattle.hart.specs.State.{ArchState, reg}
use Rattle.machine.specs.Machine.{hart_at}
use Rattle.model_board.specs.Boards.{Life, Board, On, Off, Ended}
use Rattle.model_board.specs.Events.{Event, TurnOn}
use Rattle.model_board.specs.Registers.{board_holding, EventUnread}

-- what a register holds that is left out
abbrev pub LEFT_OUT : ℕ
LEFT_OUT = 15561358513184614999

-- register k of hart h is left out of a board, which is on
abbrev pub IsLeftOut : ℕ → ℕ → Board → Type 0
IsLeftOut h k (On l) = (h < length l.machine.harts) × (k < 32) × (reg (hart_at l.machine h) k ≡ LEFT_OUT)
IsLeftOut h k (Off s) = ⊥
IsLeftOut h k (Ended s) = ⊥

-- so many registers, one after the other, each of which is left out then, get what the second board holds
abbrev pub Filled : ℕ → Board → Board → Type 0
Filled zero b c = c ≡ b
Filled (suc n) b c = (h : ℕ) × (k : ℕ) × (x : ℕ) × IsLeftOut h k b × Filled n (board_holding h k x b) c

-- the first board stands for the second: they are one but for registers that are left out of the first
abbrev pub StandsFor : Board → Board → Type 0
StandsFor b c = (n : ℕ) × Filled n b c

-- the event reads no register that is left out
abbrev pub ReadsNone : Event → Board → Type 0
ReadsNone e b = (h k : ℕ) → IsLeftOut h k b → EventUnread e h k b

-- ---- what two such boards have in common
-- all but what registers hold, and of them those that are not left out of the first
pub record HartFor (s t : ArchState) : Type 0 where
  pub same : t ≡ record s { regs = t.regs }
  pub regs : (k : ℕ) → (reg s k ≡ LEFT_OUT) ⊎ (reg t k ≡ reg s k)

pub record LifeFor (l n : Life) : Type 0 where
  pub same : n ≡ record l { machine = record l.machine { harts = n.machine.harts } }
  pub harts : (h : ℕ) → HartFor (hart_at l.machine h) (hart_at n.machine h)

-- ---- whether a turn that leads back to a board writes a register that is left out
-- what a probe puts into it
abbrev pub PROBE : ℕ
PROBE = 4370

-- what register k of hart h holds, 0 on a board that is not on
abbrev pub held_at : ℕ → ℕ → Board → ℕ
held_at h k (On l) = slice_index (hart_at l.machine h).regs k
held_at h k (Off s) = 0
held_at h k (Ended s) = 0

-- a turn of hart h leaves the probe in its register k
abbrev pub IsProbed : ℕ → ℕ → Board → Type 0
IsProbed h k b = (c : Board) × TurnOn h (board_holding h k PROBE b) c × (held_at h k c ≡ PROBE)

abbrev pub AreProbed : ℕ → Board → Type 0
AreProbed h b = (k : ℕ) → IsLeftOut h k b → IsProbed h k b
