-- Which registers a turn of a hart reads. Source: RISC-V Unprivileged ISA 20191213 (2.2); SBI specification 2.0, chapter 3.
use Rattle.std.specs.Prelude.{◌≡◌, ◌⊎◌, ℕ, Option, Some, None, slice_set, ◌<◌, length}
use Rattle.hart.specs.Means.{word_at}
use Rattle.rv_decode.specs.Spells.{Reads}
use Rattle.machine.specs.Machine.{Machine, hart_at}
use Rattle.model_board.specs.Boards.{Board, On, Off, Ended}
use Rattle.model_board.specs.Events.{Event, Turn, Refused, Wake, Cut, PowerOn}
use Rattle.hart.specs.State.{ArchState}
use Rattle.rv_decode.specs.declared.instr.Instr.{Instr}
use Rattle.rv_decode.specs.declared.instr.Instr.TheVariants as instr
use Rattle.rv_decode.specs.declared.ops.SystemOp.{SystemOp}
use Rattle.rv_decode.specs.declared.ops.SystemOp.TheVariants.{Ecall}
use Rattle.turns.specs.Turns.{Moment}

-- the hart, where register k holds x
abbrev pub with_register : ℕ → ℕ → ArchState → ArchState
with_register k x s = record s { regs = slice_set s.regs k x }

-- the registers of a call: the extension in a7, the function in a6, and three arguments
abbrev pub IsOfCall : ℕ → Type 0
IsOfCall k = (k ≡ 10) ⊎ ((k ≡ 11) ⊎ ((k ≡ 12) ⊎ ((k ≡ 16) ⊎ (k ≡ 17))))

-- an ECALL reads those of its call
abbrev pub IsReadBy : SystemOp → ℕ → Type 0
IsReadBy Ecall k = IsOfCall k
IsReadBy op k = ⊥

-- the instruction reads register k
abbrev pub IsRead : Instr → ℕ → Type 0
IsRead (instr.Upper op rd imm) k = ⊥
IsRead (instr.Jal rd offset) k = ⊥
IsRead (instr.Jalr rd rs1 imm) k = k ≡ rs1
IsRead (instr.Branch op rs1 rs2 offset) k = (k ≡ rs1) ⊎ (k ≡ rs2)
IsRead (instr.Load op rd rs1 imm) k = k ≡ rs1
IsRead (instr.Store op rs1 rs2 imm) k = (k ≡ rs1) ⊎ (k ≡ rs2)
IsRead (instr.Imm op rd rs1 imm) k = k ≡ rs1
IsRead (instr.Shift op rd rs1 amount) k = k ≡ rs1
IsRead (instr.Arith op rd rs1 rs2) k = (k ≡ rs1) ⊎ (k ≡ rs2)
IsRead (instr.AddWord rd rs1 imm) k = k ≡ rs1
IsRead (instr.ShiftWord op rd rs1 amount) k = k ≡ rs1
IsRead (instr.ArithWord op rd rs1 rs2) k = (k ≡ rs1) ⊎ (k ≡ rs2)
IsRead (instr.Fence rd rs1 imm) k = ⊥
IsRead (instr.Csr op rd rs1 csr) k = k ≡ rs1
IsRead (instr.CsrImm op rd uimm csr) k = ⊥
IsRead (instr.System op) k = IsReadBy op k

-- what a word reads as does not read register k
abbrev pub IsUnread : Option Instr → ℕ → Type 0
IsUnread None k = Unit {0}
IsUnread (Some i) k = IsRead i k → ⊥

-- a moment of a hart, where its register k holds x
abbrev pub holding : ℕ → ℕ → Moment → Moment
holding k x a = record a { hart = with_register k x a.hart }

-- a machine, and a board that is on, where register k of hart h holds x
abbrev pub machine_holding : ℕ → ℕ → ℕ → Machine → Machine
machine_holding h k x m = record m { harts = slice_set m.harts h (with_register k x (hart_at m h)) }

abbrev pub board_holding : ℕ → ℕ → ℕ → Board → Board
board_holding h k x (On l) = On (record l { machine = machine_holding h k x l.machine })
board_holding h k x (Off s) = Off s
board_holding h k x (Ended s) = Ended s

-- the next turn of hart h does not read register k
abbrev pub TurnUnread : ℕ → ℕ → Machine → Type 0
TurnUnread h k m = (d : Option Instr) × Reads d (word_at m.memory (hart_at m h).pc) × IsUnread d k

-- nor does the turn of hart g, where that is hart h
abbrev pub TurnsUnread : ℕ → ℕ → ℕ → Board → Type 0
TurnsUnread g h k (On l) = g ≡ h → TurnUnread h k l.machine
TurnsUnread g h k (Off s) = Unit {0}
TurnsUnread g h k (Ended s) = Unit {0}

-- nor does the event
abbrev pub EventUnread : Event → ℕ → ℕ → Board → Type 0
EventUnread (Turn g) h k b = TurnsUnread g h k b
EventUnread (Refused g down) h k b = TurnsUnread g h k b
EventUnread Wake h k b = Unit {0}
EventUnread Cut h k b = Unit {0}
EventUnread PowerOn h k b = Unit {0}

-- the board has hart h, where it is on
abbrev pub KnowsHart : ℕ → Board → Type 0
KnowsHart h (On l) = h < length l.machine.harts
KnowsHart h (Off s) = Unit {0}
KnowsHart h (Ended s) = Unit {0}

-- the pc of hart g changes from one board to the other, where both are on
abbrev pub MovesPc : ℕ → Board → Board → Type 0
MovesPc g (On l) (On n) = (hart_at n.machine g).pc ≡ (hart_at l.machine g).pc → ⊥
MovesPc g b c = Unit {0}
