-- What the next turn of a hart touches, by the board before it: words of 8 bytes, and what is pending for other harts. A
-- turn of a hart that is not STARTED touches neither. Source: docs/HART.md; RISC-V Unprivileged ISA 20191213 (2.6).
use Rattle.std.specs.Prelude.{◌≡◌, ◌⊎◌, ℕ, ℤ, ◌-◌, ◌/◌, ◌%◌, Bool, List, IsTrue, Ok}
use Rattle.board_model.specs.HartSets.{Has}
use Rattle.board_model.specs.Shapes.{Size}
use Rattle.hart.specs.State.{ArchState, reg}
use Rattle.hart.specs.Csrs.{csr_number}
use Rattle.hart.specs.Means.{Interrupts, word_at, sum, load_bytes, store_bytes}
use Rattle.hart.specs.declared.csr.Csr.TheVariants.{Sip}
use Rattle.ram.specs.Memory.{IsInside}
use Rattle.rv_decode.specs.Spells.{spells}
use Rattle.rv_decode.specs.declared.instr.Instr.{Instr}
use Rattle.rv_decode.specs.declared.instr.Instr.TheVariants as instr
use Rattle.rv_decode.specs.declared.ops.LoadOp.{LoadOp}
use Rattle.rv_decode.specs.declared.ops.StoreOp.{StoreOp}
use Rattle.rv_decode.specs.declared.ops.CsrOp.{CsrOp}
use Rattle.rv_decode.specs.declared.ops.SystemOp.TheVariants.{Ecall}
use Rattle.sbi_abi.specs.Calls.{call_of}
use Rattle.sbi_calls.specs.Requests.{request_of}
use Rattle.sbi_calls.specs.declared.requests.Request.TheVariants.{Send}

-- the word of 8 bytes in which an address lies; an access that is aligned lies in one
abbrev pub word_of : ℕ → ℕ
word_of a = (a - 0x80000000) / 8

-- no interrupt is taken, and the hart comes to an instruction: p is whether one is pending
pub record Fetches (p : Bool) (s : ArchState) (m : List ℕ) : Type 0 where
  pub calm : Interrupts p s → ⊥
  pub aligned : s.pc % 4 ≡ 0
  pub inside : IsInside m s.pc 4

-- it is this instruction
pub record ComesTo (p : Bool) (s : ArchState) (m : List ℕ) (i : Instr) : Type 0 where
  pub fetches : Fetches p s m
  pub spelled : spells i (word_at m s.pc)

-- an access of n bytes at address a is made, in the word k
pub record Accesses (m : List ℕ) (a n k : ℕ) : Type 0 where
  pub aligned : a % n ≡ 0
  pub inside : IsInside m a n
  pub word : k ≡ word_of a

-- ---- words
abbrev pub FetchesWord : Bool → ArchState → List ℕ → ℕ → Type 0
FetchesWord p s m k = Fetches p s m × (k ≡ word_of s.pc)

pub record LoadsWord (p : Bool) (s : ArchState) (m : List ℕ) (k : ℕ) : Type 0 where
  pub op : LoadOp
  pub rd : ℕ
  pub rs1 : ℕ
  pub imm : ℤ
  pub comes : ComesTo p s m (instr.Load op rd rs1 imm)
  pub accesses : Accesses m (sum (reg s rs1) imm) (load_bytes op) k

abbrev pub ReadsWord : Bool → ArchState → List ℕ → ℕ → Type 0
ReadsWord p s m k = FetchesWord p s m k ⊎ LoadsWord p s m k

pub record WritesWord (p : Bool) (s : ArchState) (m : List ℕ) (k : ℕ) : Type 0 where
  pub op : StoreOp
  pub rs1 : ℕ
  pub rs2 : ℕ
  pub imm : ℤ
  pub comes : ComesTo p s m (instr.Store op rs1 rs2 imm)
  pub accesses : Accesses m (sum (reg s rs1) imm) (store_bytes op) k

-- ---- what is pending
-- the turn sends an interrupt to the hart t: no other turn changes what is pending for another hart
pub record SendsTo (size : Size) (p : Bool) (s : ArchState) (m : List ℕ) (t : ℕ) : Type 0 where
  pub comes : ComesTo p s m (instr.System Ecall)
  pub targets : ℕ
  pub asks : request_of size (call_of s) ≡ Ok (Send targets)
  pub named : Has t targets

-- an access to sip
pub record AccessesSip (p : Bool) (s : ArchState) (m : List ℕ) : Type 0 where
  pub op : CsrOp
  pub rd : ℕ
  pub source : ℕ
  pub comes : ComesTo p s m (instr.Csr op rd source (csr_number Sip)) ⊎ ComesTo p s m (instr.CsrImm op rd source (csr_number Sip))

abbrev pub IsOpen : ArchState → Type 0
IsOpen s = IsTrue s.interrupts × IsTrue s.ssie

-- a turn asks what is pending for its own hart: interrupts are open, or it reads sip
abbrev pub ReadsPending : Bool → ArchState → List ℕ → Type 0
ReadsPending p s m = IsOpen s ⊎ AccessesSip p s m
