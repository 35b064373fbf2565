-- What the bench of a debugger shows.
use Rattle.std.specs.Prelude.{◌≡◌, ◌⊎◌, ℕ, ◌+◌, ◌-◌, Bool, true, false, List, Option, Some, None, nat_lt, nat_le, ◌==◌, ◌&&◌, if◌then◌else◌, length, slice_range, ⊤}
use Rattle.std.specs.List.{list_any}
use Rattle.board_model.specs.Shapes.{Size}
use Rattle.hart.specs.State.{reg}
use Rattle.hart.specs.Csrs.{csr_read}
use Rattle.hart.specs.declared.csr.Csr.{Csr}
use Rattle.hart.specs.declared.csr.Csr.TheVariants as csrs
use Rattle.hsm.specs.declared.state.State.{State}
use Rattle.machine.specs.Machine.{Machine, hart_at, status_at}
use Rattle.machine.specs.declared.line.MachineLine.TheVariants as shown
use Rattle.sbi.specs.declared.words.Word.{Word}
use Rattle.script_lang.specs.declared.line.Line.TheVariants as lines
use Rattle.turns.specs.Turns.{has_pending}
use Rattle.bench_report.specs.declared.power.Power.{Power}
use Rattle.bench_report.specs.declared.power.Power.TheVariants.{Off, On}
use Rattle.bench_report.specs.Bench.{Bench}
use Rattle.bench_report.specs.Happens.{shows}
use Rattle.bench_report.specs.Steps.{Moves}
use Rattle.bench_report.specs.Views.{machine_in}
use Rattle.bench_report.specs.declared.rows.TurnRow.{TurnRow}
use Rattle.bench_report.specs.Rows.{goes_on, is_idle, is_off}
use Rattle.bench_report.specs.declared.live.LiveBench.{LiveBench}

-- ---- what is shown

-- the machine of a board that is on
abbrev pub machine_on : Power → Option Machine
machine_on (Off disk) = None
machine_on (On board) = Some (machine_in board)

-- the machine of a bench whose board is on
abbrev pub machine_of : LiveBench → Option Machine
machine_of bench = machine_on bench.power

-- the pc of a hart that the machine has
abbrev pub pc_in : ℕ → Option Machine → Option ℕ
pc_in h None = None
pc_in h (Some m) = if nat_lt h (length m.harts) then Some (hart_at m h).pc else None

-- the state of a hart that the machine has, as `sbi_hart_get_status` names it
abbrev pub state_in : ℕ → Option Machine → Option State
state_in h None = None
state_in h (Some m) = if nat_lt h (length m.harts) then Some (status_at m h) else None

-- the nine control and status registers, from register 33 on
abbrev pub csr_shown : ℕ → Csr
csr_shown n =
    if n == 33 then csrs.Sstatus else
    (if n == 34 then csrs.Sie else
    (if n == 35 then csrs.Stvec else
    (if n == 36 then csrs.Sscratch else
    (if n == 37 then csrs.Sepc else
    (if n == 38 then csrs.Scause else
    (if n == 39 then csrs.Stval else
    (if n == 40 then csrs.Sip else csrs.Satp)))))))

-- the registers of hart h: 32 of its own, the pc, and nine control and status registers
abbrev pub register_at : Machine → ℕ → ℕ → Option ℕ
register_at m h n =
    if nat_lt n 32 then Some (reg (hart_at m h) n) else
    (if n == 32 then Some (hart_at m h).pc else
    (if nat_lt n 42 then Some (csr_read (csr_shown n) (hart_at m h) (has_pending h m.table.pairs)) else None))

abbrev pub register_in : ℕ → ℕ → Option Machine → Option ℕ
register_in h n None = None
register_in h n (Some m) = if nat_lt h (length m.harts) then register_at m h n else None

-- n bytes of RAM from the address a on, where the machine has all of them
abbrev pub memory_in : ℕ → ℕ → Option Machine → Option (List ℕ)
memory_in a n None = None
memory_in a n (Some m) =
    if nat_le 0x80000000 a && nat_le (a + n) (0x80000000 + length m.memory)
    then Some (slice_range m.memory (a - 0x80000000) (a - 0x80000000 + n)) else None

-- one of these addresses is the pc
abbrev pub stands_in : List ℕ → Option ℕ → Bool
stands_in points None = false
stands_in points (Some pc) = list_any (λ p. p == pc) points

-- ---- rows of turns

-- the next turn of the hart is idle and changes nothing
abbrev pub Rests : Size → ℕ → Bool → Bench → Type 0
Rests size h false b = ⊤
Rests size h true b = (word : Word) × (is_idle word ≡ true) × Moves size (lines.Turn h 1) b (shows (shown.Turn h 1 word)) b

-- Why a hart makes no more turns: some were made, and the last ended the row or left the hart at one of the addresses;
-- or the board is off, or lacks the hart.
abbrev pub HasHalted : ℕ → List ℕ → TurnRow → Option Machine → Type 0
HasHalted h points row machine =
    ((is_off row ≡ false) × ((goes_on row ≡ false) ⊎ (stands_in points (pc_in h machine) ≡ true)))
    ⊎ (pc_in h machine ≡ None)
