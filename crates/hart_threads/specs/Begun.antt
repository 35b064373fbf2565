-- A hart as the boot left it, whose loop begins. Source: docs/BOARD.md, "Power on"; docs/THREADS.md, "The end of a loop".
use Rattle.std.specs.Prelude.{◌≡◌, ◌+◌, ℕ, List, [], ◌∷◌, Option, length}
use Rattle.hart.specs.State.{ArchState}
use Rattle.hsm.specs.Copies.{rest_stage}
use Rattle.hsm.specs.States.{HartState}
use Rattle.machine.specs.Machine.{Machine, hart_at, state_at}
use Rattle.sbi_calls.specs.Both.{Known, known}
use Rattle.sbi_calls.specs.declared.tables.Seats.{Seats}
use Rattle.sbi_calls.specs.declared.tables.Tables.{Tables}
use Rattle.susp.specs.Dozes.{doze_of}
use Rattle.susp.specs.declared.buses.Doze.{Doze}
use Rattle.tallies.specs.Notes.{hart_notes}
use Rattle.hart_threads.specs.Bused.{fresh_part}
use Rattle.hart_threads.specs.Seated.{AreOfHart, IsSeated}
use Rattle.hart_threads.specs.Threads.{Seated, seated}

-- what the seats of that hart know, which is in that state and has noted no step in either table
abbrev pub fresh_known : ℕ → HartState → Known
fresh_known h x = record { harts = hart_notes h (rest_stage x) [] [] ∷ []; pairs = hart_notes h tt [] [] ∷ [] }

-- The hart of that number as the board has it: its registers, its state in the hart table, where it has noted no step, nor among the
-- pending interrupts; and its doze, where the board dozes by it. It has not had the bus yet.
pub record BeginsAs (m : Machine) (h : ℕ) (a : Seated) : Type 0 where
  pub hart : a.hart ≡ hart_at m h
  pub known : a.known ≡ fresh_known h (state_at m h)
  pub doze : a.doze ≡ doze_of h m.doze
  pub took : a.took ≡ fresh_part h

-- a hart with seats of its own and of no other, which is one of that board
abbrev pub IsFromBoot : Machine → Tables → ArchState → Seats → Option Doze → Type 0
IsFromBoot m t s seats doze =
    IsSeated t s.id seats doze × AreOfHart s.id seats × BeginsAs m s.id (seated s (known seats) doze (fresh_part s.id))

-- they are of the harts from that number on, by these numbers of theirs, that of the highest number first
abbrev pub AreFromLast : {A : Type 0} → ℕ → (A → ℕ) → List A → Type 0
AreFromLast first number [] = Unit {0}
AreFromLast first number (a ∷ rest) = (number a ≡ first + length rest) × AreFromLast first number rest
