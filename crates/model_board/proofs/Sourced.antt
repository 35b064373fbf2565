-- A register that is none of an instruction's sources is not read.
use Rattle.std.proofs.Common.{ℕ, Option, Some, None}
use Rattle.rv_decode.specs.declared.instr.Instr.{Instr}
use Rattle.rv_decode.specs.declared.instr.Instr.TheVariants as instr
use Rattle.rv_decode.specs.declared.ops.SystemOp.TheVariants as system
use Rattle.model_board.specs.{Registers.IsUnread, Sources.{sources_read, IsAmong}}

pub unread_by : (o : Option Instr) (k : ℕ) → (IsAmong (sources_read o) k → ⊥) → IsUnread o k
unread_by None k none = tt
unread_by (Some (instr.Upper op rd imm)) k none = λ is. is
unread_by (Some (instr.Jal rd offset)) k none = λ is. is
unread_by (Some (instr.Jalr rd rs1 imm)) k none = none
unread_by (Some (instr.Branch op rs1 rs2 offset)) k none = none
unread_by (Some (instr.Load op rd rs1 imm)) k none = none
unread_by (Some (instr.Store op rs1 rs2 imm)) k none = none
unread_by (Some (instr.Imm op rd rs1 imm)) k none = none
unread_by (Some (instr.Shift op rd rs1 amount)) k none = none
unread_by (Some (instr.Arith op rd rs1 rs2)) k none = none
unread_by (Some (instr.AddWord rd rs1 imm)) k none = none
unread_by (Some (instr.ShiftWord op rd rs1 amount)) k none = none
unread_by (Some (instr.ArithWord op rd rs1 rs2)) k none = none
unread_by (Some (instr.Fence rd rs1 imm)) k none = λ is. is
unread_by (Some (instr.Csr op rd rs1 csr)) k none = none
unread_by (Some (instr.CsrImm op rd uimm csr)) k none = λ is. is
unread_by (Some (instr.System system.Ecall)) k none = none
unread_by (Some (instr.System system.Ebreak)) k none = λ is. is
unread_by (Some (instr.System system.Sret)) k none = λ is. is
unread_by (Some (instr.System system.Wfi)) k none = λ is. is
