-- The board as a model: its memory, its harts, and both tables. Source: SBI specification 2.0, chapters 7 and
-- 9; docs/BOARD.md.
use Rattle.std.specs.Prelude.{ℕ, zero, suc, Bool, false, List, [], ◌∷◌, ◌++◌, ◌-◌, length, replicate, get_or, slice_set, Option, None}
use Rattle.board_model.specs.Durable.{Image}
use Rattle.board_model.specs.Shapes.{Size, ram_bytes_of}
use Rattle.board_model.specs.Views.{reason_number}
use Rattle.board_model.specs.declared.durable.Reason.{Reason}
use Rattle.hart.specs.State.{ArchState, never_started, started as fresh}
use Rattle.hsm.specs.States.{HartState, stopped, started}
use Rattle.hsm.specs.Calls.{named}
use Rattle.hsm.specs.Views.{listed}
use Rattle.hsm.specs.declared.state.State.{State}
use Rattle.sbi_calls.specs.Both.{TableState}
use Rattle.susp.specs.declared.buses.Doze.{Doze}

-- How large the board is, the bytes of RAM, its doze where it sleeps to RAM, the harts by number, and the
-- tables: the state of each hart, and for each the senders of whom an interrupt is pending for it.
pub record Machine : Type 0 where
  pub size : Size
  pub memory : List ℕ
  pub doze : Option Doze
  pub harts : List ArchState
  pub table : TableState

abbrev pub hart_at : Machine → ℕ → ArchState
hart_at m h = get_or m.harts h (never_started h)

-- a hart that the board lacks is stopped
abbrev pub state_at : Machine → ℕ → HartState
state_at m h = listed m.table.states h

-- the same by its name alone, as `sbi_hart_get_status` answers it
abbrev pub status_at : Machine → ℕ → State
status_at m h = named (state_at m h)

-- the harts 0 to n - 1, none of which ever ran
abbrev pub stopped_harts : ℕ → List ArchState
stopped_harts zero = []
stopped_harts (suc n) = stopped_harts n ++ never_started n ∷ []

-- only the hart `first` runs
abbrev pub only_first : ℕ → ℕ → List HartState
only_first harts first = slice_set (replicate harts stopped) first started

abbrev pub none_pending : ℕ → List (List Bool)
none_pending harts = replicate harts (replicate harts false)

-- a board of that size before a boot, whose hart `first` is to begin
abbrev pub resting : Size → ℕ → Machine
resting size first =
    record {
      size = size;
      memory = replicate (ram_bytes_of size) 0;
      doze = None;
      harts = stopped_harts size.harts;
      table = record { states = only_first size.harts first; pairs = none_pending size.harts };
    }

-- What a boot of a payload leaves: RAM is the payload and zeros after it, hart 0 stands at the start of RAM
-- with its number in a0 and the reset reason in a1, all else of it is 0, no other hart ever ran, and no
-- interrupt is pending.
abbrev pub machine_begun : List ℕ → Reason → Size → Machine
machine_begun payload reason size =
    record (resting size 0) {
      memory = payload ++ replicate (ram_bytes_of size - length payload) 0;
      harts = slice_set (stopped_harts size.harts) 0 (fresh 0 0x80000000 (reason_number reason));
    }

-- What a resume leaves: the memory is the image's, its hart stands at its address with its number in a0 and
-- its opaque value in a1, all else of it is 0, no other hart ever ran, and no interrupt is pending.
abbrev pub woken : Image → Size → Machine
woken i size =
    record (resting size i.hart)
    { memory = i.memory; harts = slice_set (stopped_harts size.harts) i.hart (fresh i.hart i.address i.opaque) }
