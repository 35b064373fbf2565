-- What the next turn of a hart reads: the bytes that its load instruction loads. Source: RISC-V Unprivileged ISA 20191213, sections
-- 2.6 and 5.3; docs/BOARD.md, "A turn of a hart".
use Rattle.std.specs.Prelude.{◌≡◌, ℕ, ◌+◌, ◌%◌, Bool, true, false, List, Option, Some, None, ◌==◌, ◌&&◌, not, nat_le, nat_lt, length, if◌then◌else◌}
use Rattle.std.specs.Bool.{MatchBool}
use Rattle.hart.specs.Means.{load_bytes, sum, word_at}
use Rattle.hart.specs.State.{ArchState, reg}
use Rattle.hsm.specs.declared.state.State.{State}
use Rattle.hsm.specs.declared.state.State.TheVariants as states
use Rattle.machine.specs.Machine.{Machine, hart_at, status_at}
use Rattle.rv_decode.specs.Spells.{Reads}
use Rattle.rv_decode.specs.declared.instr.Instr.{Instr}
use Rattle.rv_decode.specs.declared.instr.Instr.TheVariants as instr
use Rattle.debug_session.specs.Lives.{register_at}
use Rattle.debug_session.specs.declared.loads.Load.{Load}

-- ---- whether the turn is that of an instruction
abbrev pub is_started : State → Bool
is_started states.Started = true
is_started state = false

-- bit 1 of a register: SIE of `sstatus`, SSIE of `sie`, SSIP of `sip`
abbrev pub is_set : Option ℕ → Bool
is_set None = false
is_set (Some v) = nat_le 2 (v % 4)

-- an interrupt is pending, enabled, and let in
abbrev pub is_interrupted : Machine → ℕ → Bool
is_interrupted m h = is_set (register_at m h 41) && (is_set (register_at m h 34) && is_set (register_at m h 33))

-- the hart is STARTED, and takes no interrupt. (One that dozes stands at its ECALL, which loads nothing.)
abbrev pub is_stepping : Machine → ℕ → Bool
is_stepping m h = is_started (status_at m h) && not (is_interrupted m h)

-- ---- the instruction
-- n bytes from the address a on lie in RAM, and the address is a multiple of n
abbrev pub is_there : List ℕ → ℕ → ℕ → Bool
is_there memory a n = (a % n == 0) && (nat_le 0x80000000 a && nat_le (a + n) (0x80000000 + length memory))

-- that of the word at the pc, where one can be fetched and one is written so
abbrev pub Fetches : List ℕ → ℕ → Option Instr → Type 0
Fetches memory pc found = MatchBool (is_there memory pc 4) (Reads found (word_at memory pc)) (found ≡ None)

-- A load loads as many bytes as it is wide, from the number in its register plus its immediate on, modulo 2^64.
abbrev pub load_in : Option Instr → ArchState → Option Load
load_in (Some (instr.Load op rd rs1 imm)) s = Some (record { address = sum (reg s rs1) imm; count = load_bytes op })
load_in i s = None

-- it traps, and loads nothing, where these are not there
abbrev pub made_load : List ℕ → Option Load → Option Load
made_load memory None = None
made_load memory (Some load) = if is_there memory load.address load.count then Some load else None

-- ---- what the next turn of hart h reads
abbrev pub LoadsAt : Machine → ℕ → Option Load → Type 0
LoadsAt m h found =
    MatchBool (is_stepping m h)
    ((i : Option Instr) × Fetches m.memory (hart_at m h).pc i × (found ≡ made_load m.memory (load_in i (hart_at m h)))) (found ≡ None)

-- the word at the pc is that of no load
abbrev pub LoadsNone : Machine → ℕ → Type 0
LoadsNone m h = (i : Option Instr) → Fetches m.memory (hart_at m h).pc i → load_in i (hart_at m h) ≡ None

-- none where the board is off, or lacks the hart
abbrev pub LoadsNext : Option Machine → ℕ → Option Load → Type 0
LoadsNext None h found = found ≡ None
LoadsNext (Some m) h found = MatchBool (nat_lt h (length m.harts)) (LoadsAt m h found) (found ≡ None)
