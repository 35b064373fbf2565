-- What the lines that show a board's memory and harts say. A line whose hart or whose bytes the board lacks says
-- `off`. Source: docs/SCRIPT.md.
use Rattle.std.specs.Prelude.{◌≡◌, ◌≢◌, ℕ, zero, suc, ◌+◌, ◌-◌, ◌^◌, ◌<◌, ◌++◌, Bool, true, false, Option, Some, None, length, replicate, slice_range, nat_lt, nat_le, ◌&&◌, if◌then◌else◌}
use Rattle.hart.specs.State.{ArchState, reg}
use Rattle.hart.specs.Csrs.{csr_number, csr_read}
use Rattle.hart.specs.declared.csr.Csr.{Csr}
use Rattle.machine.specs.Machine.{Machine, hart_at}
use Rattle.turns.specs.Turns.{has_pending}
use Rattle.sbi_calls.specs.Words.{is_answered}
use Rattle.sbi_calls.specs.declared.words.Did.{Did}
use Rattle.sbi.specs.declared.words.Word.{Word}
use Rattle.sbi.specs.declared.words.Word.TheVariants.{Goes, Over}
use Rattle.machine.specs.declared.line.MachineLine.{MachineLine}
use Rattle.machine.specs.declared.line.MachineLine.TheVariants as lines

abbrev pub HasHart : Machine → ℕ → Type 0
HasHart m h = h < length m.harts

-- what a call that was made says of its hart: one that was answered shows the answer
abbrev pub own_line_by : Bool → ℕ → ArchState → Did → MachineLine
own_line_by true h s did = lines.Answered h (reg s 10) (reg s 11)
own_line_by false h s did = lines.Called h (Goes did)

abbrev pub own_line : ℕ → ArchState → Did → MachineLine
own_line h s did = own_line_by (is_answered did) h s did

abbrev pub made_line : ℕ → ArchState → Word → MachineLine
made_line h s (Goes did) = own_line h s did
made_line h s (Over end) = lines.Called h (Over end)

-- none was made where the hart is not STARTED
abbrev pub called_line : ℕ → ArchState → Option Word → MachineLine
called_line h s None = lines.NotStarted h
called_line h s (Some word) = made_line h s word

-- the board has the hart, and an interrupt is pending for it
abbrev pub waits : Machine → ℕ → Bool
waits m h = nat_lt h (length m.harts) && has_pending h m.table.pairs

-- the harts below n for which one is pending, as a number with bit h for hart h
abbrev pub pending_set : Machine → ℕ → ℕ
pending_set m zero = 0
pending_set m (suc n) = pending_set m n + (if waits m n then 2 ^ n else 0)

-- `pending`
abbrev pub pending_line : Machine → MachineLine
pending_line m = lines.Pending (pending_set m 8)

-- `reg H R`, with R below 32
abbrev pub reg_line : ℕ → ℕ → Machine → MachineLine
reg_line h r m = if nat_lt h (length m.harts) && nat_lt r 32 then lines.Reg h r (reg (hart_at m h) r) else lines.Off

-- `pc H`
abbrev pub pc_line : ℕ → Machine → MachineLine
pc_line h m = if nat_lt h (length m.harts) then lines.Pc h (hart_at m h).pc else lines.Off

-- `csr H C`, with C the number of a control and status register of the profile
pub record CsrLine (h n : ℕ) (m : Machine) (line : MachineLine) : Type 0 where
  pub shown : HasHart m h → (c : Csr) → csr_number c ≡ n
      → line ≡ lines.Csr h n (csr_read c (hart_at m h) (has_pending h m.table.pairs))
  pub no_csr : ((c : Csr) → csr_number c ≢ n) → line ≡ lines.Off
  pub lacks : (HasHart m h → ⊥) → line ≡ lines.Off

-- `mem A N`, with N at most 64
abbrev pub mem_line : ℕ → ℕ → Machine → MachineLine
mem_line a n m =
    if nat_le 0x80000000 a && (nat_le (a + n) (0x80000000 + length m.memory) && nat_le n 64)
    then lines.Mem (record {
      bytes = slice_range m.memory (a - 0x80000000) (a - 0x80000000 + n)
          ++ replicate (64 - n) 0;
      count = n;
    })
    else lines.Off
