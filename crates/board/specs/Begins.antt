-- Which board a power-on begins by its mode, and which refusals there are, in their order, once the disk was
-- opened. Source: docs/BOARD.md, "Power on"; SBI specification 2.0, chapter 13.
use Rattle.std.specs.Prelude.{◌≡◌, ◌<◌, ℕ, List, [], Option, None, Some, IfSome, length}
use Rattle.board_model.specs.Durable.{DurableState, Image, IsWhole}
use Rattle.board_model.specs.Shapes.{Size, ram_bytes_of}
use Rattle.board_model.specs.Views.{number_of_refusal}
use Rattle.board_model.specs.declared.boot_mode.BootMode.{BootMode}
use Rattle.board_model.specs.declared.boot_mode.BootMode.TheVariants as modes
use Rattle.board_model.specs.declared.refusal.Refusal.{Refusal}
use Rattle.board_model.specs.declared.refusal.Refusal.TheVariants.{BadShape, Memory, Device, Down, BadImage}
use Rattle.machine.specs.Machine.{Machine, woken}
use Rattle.store.specs.Lives.{now_of}
use Rattle.board.specs.Boots.{PayloadsFit, boot_refusal, life_after, booted}
use Rattle.board.specs.Moments.{commands_by}

-- the hart of an image that stands is one of the board
abbrev pub HasItsHart : Size → DurableState → Type 0
HasItsHart size s = IfSome s.image (λ i. i.hart < size.harts)

-- the hart that a boot by the mode begins: hart 0, or on a resume the image's
abbrev pub image_hart : Option Image → ℕ
image_hart None = 0
image_hart (Some i) = i.hart

abbrev pub boot_hart : BootMode → DurableState → ℕ
boot_hart modes.Fresh s = 0
boot_hart modes.Keep s = 0
boot_hart modes.Discard s = 0
boot_hart modes.Resume s = image_hart s.image

-- The board goes on with the image that stands: it has the image's memory, byte for byte, and of its harts
-- the image's alone runs. Nothing of it is the slot's.
pub record IsResumed (size : Size) (s : DurableState) (m : Machine) : Type 0 where
  pub image : Image
  pub stands : s.image ≡ Some image
  pub hart : image.hart < size.harts
  pub whole : length image.memory ≡ ram_bytes_of size
  pub is : m ≡ woken image size

-- The board that the mode begins where the open found that state: the payload of the slot is booted that
-- stands once the mode's commands were issued, or the image goes on.
abbrev pub IsBegun : BootMode → Size → List (List ℕ) → DurableState → Machine → Type 0
IsBegun modes.Fresh size payloads s m = m ≡ booted payloads (now_of (life_after modes.Fresh s)) size
IsBegun modes.Keep size payloads s m = m ≡ booted payloads (now_of (life_after modes.Keep s)) size
IsBegun modes.Discard size payloads s m = m ≡ booted payloads (now_of (life_after modes.Discard s)) size
IsBegun modes.Resume size payloads s m = IsResumed size s m

-- the mode issues a command in that state
abbrev pub Issues : BootMode → DurableState → Type 0
Issues mode s = commands_by mode s ≡ [] → ⊥

-- of a mode that the state allows, in this order: a payload that does not fit, memory, an image that has not
-- the memory of its board, and the disk, where the mode issues a command
abbrev pub IsLateRefusal : BootMode → Size → List (List ℕ) → DurableState → Refusal → Type 0
IsLateRefusal mode size payloads s BadShape = PayloadsFit size payloads → ⊥
IsLateRefusal mode size payloads s Memory = PayloadsFit size payloads
IsLateRefusal mode size payloads s BadImage = PayloadsFit size payloads × (mode ≡ modes.Resume) × (IsWhole size s → ⊥)
IsLateRefusal mode size payloads s Device = PayloadsFit size payloads × Issues mode s
IsLateRefusal mode size payloads s Down = PayloadsFit size payloads × Issues mode s
IsLateRefusal mode size payloads s e = ⊥

-- by the number with which the state refuses the mode, where it does
abbrev pub IsBootRefusal : Option ℕ → BootMode → Size → List (List ℕ) → DurableState → Refusal → Type 0
IsBootRefusal (Some n) mode size payloads s e = number_of_refusal e ≡ n
IsBootRefusal None mode size payloads s e = IsLateRefusal mode size payloads s e

-- a power-on by the mode is refused so where the open found that state
abbrev pub RefusesBoot : BootMode → Size → List (List ℕ) → DurableState → Refusal → Type 0
RefusesBoot mode size payloads s e = IsBootRefusal (boot_refusal s mode) mode size payloads s e
