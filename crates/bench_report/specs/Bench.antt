-- The bench as a model: what its disk keeps, its board with memory and harts, and why the disk failed.
use Rattle.std.specs.Prelude.{◌≡◌, ℕ, Bool, false, List, [], ◌∷◌, Option, None}
use Rattle.board_model.specs.Durable.{DurableState, Change}
use Rattle.board_model.specs.Kept.{Kept, nothing_kept}
use Rattle.disk.specs.FaultState.{FaultState, no_fault}
use Rattle.machine.specs.Machine.{Machine}

-- A disk that was never written; one of which nothing is known, since a format was refused 5 or cut, or it
-- was written past the firmware, and no format has answered Ok since; one that was formatted.
pub data DiskState : Type 0 where
  Blank : DiskState
  Unknown : DiskState
  Formatted : DiskState

-- A board that is on: the durable state with what was acknowledged, how many commands that were in this life,
-- the command in doubt, after which each later one is refused 6, and its memory and harts.
pub record BenchLife : Type 0 where
  pub now : DurableState
  pub receipts : ℕ
  pub doubt : Option Change
  pub machine : Machine

-- The disk and, once it was formatted, the commands that it keeps; the board where it is on; what the slots
-- boot; how often memory was refused (11), to a power-on, to a suspension, whose hart finds -1, or to an
-- examination of the disk; how often a failure of the disk was answered (each 5, and each 6 that begins a
-- doubt), the fault state of the disk: what is armed, whether an armed cut has struck, how often it failed by
-- itself, and all that the lines armed; and whether the disk was ever written past the firmware.
pub record Bench : Type 0 where
  pub disk_state : DiskState
  pub kept : Kept
  pub power : Option BenchLife
  pub payloads : List (List ℕ)
  pub growths : ℕ
  pub failures : ℕ
  pub fault_state : FaultState
  pub poked : Bool

-- memory was never refused, and no failure of the disk was answered; so no armed cut has struck
abbrev pub IsFailureFree : Bench → Type 0
IsFailureFree b = (b.growths ≡ 0) × (b.failures ≡ 0)

-- and nobody but the firmware wrote the disk
abbrev pub IsClean : Bench → Type 0
IsClean b = IsFailureFree b × (b.poked ≡ false)

abbrev pub no_payloads : List (List ℕ)
no_payloads = [] ∷ [] ∷ [] ∷ [] ∷ []

-- the bench after the board line of a script that begins with these payloads: the slots boot them until a line says otherwise
abbrev pub bench_with : List (List ℕ) → Bench
bench_with payloads = record {
  disk_state = Blank;
  kept = nothing_kept;
  power = None;
  payloads = payloads;
  growths = 0;
  failures = 0;
  fault_state = no_fault;
  poked = false;
}
