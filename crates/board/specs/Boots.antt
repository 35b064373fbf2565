-- Power on by mode: which modes are refused, what is issued, and what is booted.
-- Source: docs/BOARD.md.
use Rattle.std.specs.Prelude.{ℕ, List, [], ◌≤◌, length, Option, None, Some, is_some, if◌then◌else◌, All, get_or}
use Rattle.board_model.specs.Durable.{DurableState}
use Rattle.board_model.specs.Shapes.{Size, ram_bytes_of}
use Rattle.board_model.specs.declared.boot_mode.BootMode.{BootMode}
use Rattle.board_model.specs.declared.boot_mode.BootMode.TheVariants as modes
use Rattle.machine.specs.Machine.{Machine, machine_begun as begun_machine}
use Rattle.store.specs.Lives.{Life, begun}
use Rattle.board.specs.Moments.{commands_by}

-- the number with which a mode is refused in a state
abbrev pub boot_refusal : DurableState → BootMode → Option ℕ
boot_refusal s modes.Fresh = if is_some s.image then Some 15 else None
boot_refusal s modes.Keep = None
boot_refusal s modes.Discard = if is_some s.image then None else Some 8
boot_refusal s modes.Resume = if is_some s.image then None else Some 8

-- the life that a boot begins in a state: with the commands that the mode issues there
abbrev pub life_after : BootMode → DurableState → Life
life_after mode s = record (begun s) { journal = commands_by mode s }

-- each of the payloads fits into RAM
abbrev pub PayloadsFit : Size → List (List ℕ) → Type 0
PayloadsFit size payloads = All (λ payload. length payload ≤ ram_bytes_of size) payloads

-- the payload of a slot
abbrev pub payload_at : List (List ℕ) → ℕ → List ℕ
payload_at payloads slot = get_or payloads slot []

-- the board that boots the slot of a state
abbrev pub booted : List (List ℕ) → DurableState → Size → Machine
booted payloads s size = begun_machine (payload_at payloads s.slot) s.reason size
