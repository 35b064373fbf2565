-- What the next step of a hart touches, as values: the words of 8 bytes, whether it is asked what is pending for the hart,
-- and whether the step is a call.
use Rattle.std.specs.Prelude.{◌≡◌, ◌⊎◌, ℕ, ◌+◌, ◌%◌, ◌≤◌, ◌==◌, ◌&&◌, ◌||◌, nat_le, Bool, IsTrue, true, false, List, length, Option, Some, None, if◌then◌else◌}
use Rattle.hart.specs.State.{ArchState, reg}
use Rattle.hart.specs.Csrs.{csr_number}
use Rattle.hart.specs.Means.{sum, load_bytes, store_bytes}
use Rattle.hart.specs.declared.csr.Csr.TheVariants.{Sip}
use Rattle.rv_decode.specs.declared.instr.Instr.{Instr}
use Rattle.rv_decode.specs.declared.instr.Instr.TheVariants as instr
use Rattle.rv_decode.specs.declared.ops.SystemOp.TheVariants as system
use Rattle.model_board.specs.Touches.{word_of, ComesTo, ReadsWord, WritesWord, IsOpen, ReadsPending}
use Rattle.model_board.specs.declared.footprints.Touch.{Touch}
use Rattle.model_board.specs.declared.footprints.Touch.TheVariants as touch
use Rattle.model_board.specs.declared.footprints.Footprint.{Footprint}

-- the word of an access of n bytes at address a, where it is made
abbrev pub accessed : List ℕ → ℕ → ℕ → Option ℕ
accessed m a n =
    if (a % n == 0) && (nat_le 0x80000000 a && nat_le (a + n) (0x80000000 + length m)) then Some (word_of a) else None

-- what an instruction touches, beside the word in which it stands
abbrev pub touch_of : Instr → ArchState → Touch
touch_of (instr.Upper op rd imm) s = touch.Nothing
touch_of (instr.Jal rd offset) s = touch.Nothing
touch_of (instr.Jalr rd rs1 imm) s = touch.Nothing
touch_of (instr.Branch op rs1 rs2 offset) s = touch.Nothing
touch_of (instr.Load op rd rs1 imm) s = touch.Loads (load_bytes op) (sum (reg s rs1) imm)
touch_of (instr.Store op rs1 rs2 imm) s = touch.Stores (store_bytes op) (sum (reg s rs1) imm)
touch_of (instr.Imm op rd rs1 imm) s = touch.Nothing
touch_of (instr.Shift op rd rs1 amount) s = touch.Nothing
touch_of (instr.Arith op rd rs1 rs2) s = touch.Nothing
touch_of (instr.AddWord rd rs1 imm) s = touch.Nothing
touch_of (instr.ShiftWord op rd rs1 amount) s = touch.Nothing
touch_of (instr.ArithWord op rd rs1 rs2) s = touch.Nothing
touch_of (instr.Fence rd rs1 imm) s = touch.Nothing
touch_of (instr.Csr op rd rs1 number) s = touch.Exchanges (number == csr_number Sip)
touch_of (instr.CsrImm op rd uimm number) s = touch.Exchanges (number == csr_number Sip)
touch_of (instr.System system.Ecall) s = touch.Calls
touch_of (instr.System system.Ebreak) s = touch.Nothing
touch_of (instr.System system.Sret) s = touch.Nothing
touch_of (instr.System system.Wfi) s = touch.Nothing

abbrev pub touch_read : Option Instr → ArchState → Touch
touch_read None s = touch.Nothing
touch_read (Some i) s = touch_of i s

-- an access is of 1 to 8 bytes
abbrev pub IsSized : Touch → Type 0
IsSized touch.Nothing = Unit {0}
IsSized (touch.Loads n a) = (1 ≤ n) × (n ≤ 8)
IsSized (touch.Stores n a) = (1 ≤ n) × (n ≤ 8)
IsSized (touch.Exchanges sip) = Unit {0}
IsSized touch.Calls = Unit {0}

-- of a step that comes to no instruction
abbrev pub quiet : Bool → Bool → Footprint
quiet opened interrupts =
    record { interrupts = interrupts; fetched = None; loaded = None; stored = None; pending = opened; calls = false }

-- of an instruction that is fetched from the word k
abbrev pub footprint_at : Touch → List ℕ → ℕ → Bool → Footprint
footprint_at touch.Nothing m k opened = record (quiet opened false) { fetched = Some k }
footprint_at (touch.Loads n a) m k opened = record (quiet opened false) { fetched = Some k; loaded = accessed m a n }
footprint_at (touch.Stores n a) m k opened = record (quiet opened false) { fetched = Some k; stored = accessed m a n }
footprint_at (touch.Exchanges sip) m k opened = record (quiet (sip || opened) false) { fetched = Some k }
footprint_at touch.Calls m k opened = record (quiet opened false) { fetched = Some k; calls = true }

-- the footprint has all that a step touches, where p is whether an interrupt is pending
pub record Covers (p : Bool) (s : ArchState) (m : List ℕ) (f : Footprint) : Type 0 where
  pub reads : (k : ℕ) → ReadsWord p s m k → (f.fetched ≡ Some k) ⊎ (f.loaded ≡ Some k)
  pub writes : (k : ℕ) → WritesWord p s m k → f.stored ≡ Some k
  pub interrupts : f.interrupts ≡ true → IsTrue p × IsOpen s
  pub pending : f.pending ≡ false → ReadsPending p s m → ⊥
  pub calls : f.calls ≡ false → ComesTo p s m (instr.System system.Ecall) → ⊥
