-- The registers that an instruction reads, as values.
use Rattle.std.specs.Prelude.{◌≡◌, ◌⊎◌, ℕ, List, Option, Some, None}
use Rattle.hart.specs.State.{ArchState}
use Rattle.hart.specs.Means.{word_at}
use Rattle.rv_decode.specs.Spells.{Reads}
use Rattle.rv_decode.specs.declared.instr.Instr.{Instr}
use Rattle.rv_decode.specs.declared.instr.Instr.TheVariants as instr
use Rattle.rv_decode.specs.declared.ops.SystemOp.TheVariants as system
use Rattle.model_board.specs.Registers.{IsOfCall, IsUnread}
use Rattle.model_board.specs.declared.left_out.Sources.{Sources}
use Rattle.model_board.specs.declared.left_out.Sources.TheVariants as sources

abbrev pub sources_of : Instr → Sources
sources_of (instr.Upper op rd imm) = sources.Nothing
sources_of (instr.Jal rd offset) = sources.Nothing
sources_of (instr.Jalr rd rs1 imm) = sources.One rs1
sources_of (instr.Branch op rs1 rs2 offset) = sources.Two rs1 rs2
sources_of (instr.Load op rd rs1 imm) = sources.One rs1
sources_of (instr.Store op rs1 rs2 imm) = sources.Two rs1 rs2
sources_of (instr.Imm op rd rs1 imm) = sources.One rs1
sources_of (instr.Shift op rd rs1 amount) = sources.One rs1
sources_of (instr.Arith op rd rs1 rs2) = sources.Two rs1 rs2
sources_of (instr.AddWord rd rs1 imm) = sources.One rs1
sources_of (instr.ShiftWord op rd rs1 amount) = sources.One rs1
sources_of (instr.ArithWord op rd rs1 rs2) = sources.Two rs1 rs2
sources_of (instr.Fence rd rs1 imm) = sources.Nothing
sources_of (instr.Csr op rd rs1 csr) = sources.One rs1
sources_of (instr.CsrImm op rd uimm csr) = sources.Nothing
sources_of (instr.System system.Ecall) = sources.OfCall
sources_of (instr.System system.Ebreak) = sources.Nothing
sources_of (instr.System system.Sret) = sources.Nothing
sources_of (instr.System system.Wfi) = sources.Nothing

abbrev pub sources_read : Option Instr → Sources
sources_read None = sources.Nothing
sources_read (Some i) = sources_of i

-- register k is one of them
abbrev pub IsAmong : Sources → ℕ → Type 0
IsAmong sources.Nothing k = ⊥
IsAmong (sources.One a) k = k ≡ a
IsAmong (sources.Two a b) k = (k ≡ a) ⊎ (k ≡ b)
IsAmong sources.OfCall k = IsOfCall k

-- the instruction at which a hart stands does not read register k
abbrev pub IsUnreadAt : ℕ → ArchState → List ℕ → Type 0
IsUnreadAt k s m = (d : Option Instr) × Reads d (word_at m s.pc) × IsUnread d k
