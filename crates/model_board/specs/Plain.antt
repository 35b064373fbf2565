-- A machine as plain data: the states of the harts, and for each hart a number whose bits are the senders of whom an
-- interrupt is pending for it.
use Rattle.std.specs.Prelude.{◌≡◌, ℕ, ◌-◌, ◌*◌, ◌%◌, ◌++◌, replicate, ◌<◌, ◌≤◌, ◌^◌, ◌==◌, Bool, List, length, map, slice_index, slice_set, bit_or, if◌then◌else◌, Option, Some, None}
use Rattle.std.specs.Int.{bit_at}
use Rattle.tallies.specs.Seats.{numbers_from}
use Rattle.board_model.specs.Durable.{Image}
use Rattle.board_model.specs.Shapes.{Size, ram_bytes_of}
use Rattle.board_model.specs.declared.durable.Reason.{Reason}
use Rattle.hart.specs.State.{ArchState, started as fresh}
use Rattle.hsm.specs.Copies.{state_told}
use Rattle.hsm.specs.declared.standings.Standing.{Standing}
use Rattle.sbi_calls.specs.Both.{TableState}
use Rattle.machine.specs.Held.{AreNumbered}
use Rattle.machine.specs.Machine.{Machine, resting, stopped_harts}
use Rattle.model_board.specs.Boards.{Standing as Stood, Life, Board, On, Off, Ended, image_of}
use Rattle.model_board.specs.Held.{after_reset}
use Rattle.model_board.specs.declared.powers.Power.{Power}
use Rattle.model_board.specs.declared.powers.Power.TheVariants as powers
use Rattle.model_board.specs.declared.powers.Status.{Status}
use Rattle.model_board.specs.declared.powers.Status.TheVariants as statuses
use Rattle.model_board.specs.declared.holds.Settled.{Settled}
use Rattle.model_board.specs.declared.holds.Settled.TheVariants as settled
use Rattle.store.specs.declared.saving.Resumption.{Resumption}

-- the row of a hart on a board of so many
abbrev pub row_in : ℕ → ℕ → List Bool
row_in harts senders = map (λ sender. bit_at senders sender == 1) (numbers_from 0 harts)

abbrev pub table_in : List Standing → List ℕ → TableState
table_in states pending =
    record { states = map state_told states; pairs = map (row_in (length states)) pending }

-- the senders of a hart, once one more raised, and once one raised for each hart of a set
abbrev pub raised : ℕ → ℕ → ℕ
raised by senders = bit_or senders (1 * 2 ^ by % 2 ^ 8)

abbrev pub sent_to : ℕ → ℕ → ℕ → ℕ → ℕ
sent_to by targets target senders = if bit_at targets target == 1 then raised by senders else senders

-- each hart has its senders, of whom none is a hart that the board lacks
pub record AreTables (states : List Standing) (pending : List ℕ) : Type 0 where
  pub few : length states ≤ 8
  pub long : length pending ≡ length states
  pub within : (h : ℕ) → slice_index pending h < 2 ^ length states

-- a machine of that size: it has every hart, 1 to 8, each under its number, with its state, and its memory
pub record IsPlain (size : Size) (memory : List ℕ) (harts : List ArchState) (table : TableState) : Type 0 where
  pub some : 1 ≤ size.harts
  pub few : size.harts ≤ 8
  pub room : length memory ≡ ram_bytes_of size
  pub long : length harts ≡ size.harts
  pub numbered : AreNumbered harts
  pub states : length table.states ≡ size.harts

-- every hart as one that never ran, of which the hart `first` stands at pc with its number in a0 and a1 in a1: no
-- interrupt is pending and the board does not doze, and the memory stays
abbrev pub begun_again : ℕ → ℕ → ℕ → Machine → Machine
begun_again first pc a1 m =
    record (resting m.size first)
    { memory = m.memory; harts = slice_set (stopped_harts m.size.harts) first (fresh first pc a1) }

-- the memory holds the payload, and zeros after it
abbrev pub with_payload : List ℕ → Machine → Machine
with_payload payload m =
    record m { memory = payload ++ replicate (ram_bytes_of m.size - length payload) 0 }

-- ---- a board
-- what a durable call makes of the life in which it is made
abbrev pub board_after : Settled → Life → Board
board_after settled.GoesOn l = On l
board_after (settled.Resets reset reason) l = after_reset reset (record l.stands { reason = reason })
board_after (settled.Sleeps at) l =
    Off (record l.stands { image = Some (image_of at.hart at.address at.opaque l.machine.memory) })

abbrev pub life_of : Stood → Bool → Machine → Life
life_of stands down m = record { machine = m; stands = stands; down = down }

-- whatever stood on the disk when the life began, and whether or not the store is down
abbrev pub Settles : (Life → Board → Type 0) → Machine → Settled → Machine → Type 0
Settles Does old s new = (stands : Stood) (down : Bool) → Does (life_of stands down old) (board_after s (life_of stands down new))

-- the hart of an image that was made is one of so many
abbrev pub HasSleeper : ℕ → Settled → Type 0
HasSleeper harts settled.GoesOn = Unit {0}
HasSleeper harts (settled.Resets _ _) = Unit {0}
HasSleeper harts (settled.Sleeps at) = at.hart < harts

abbrev pub standing : Reason → Option Image → Stood
standing reason image = record { reason = reason; image = image }

-- the image that the memory holds
abbrev pub image_at : List ℕ → Option Resumption → Option Image
image_at memory None = None
image_at memory (Some at) = Some (image_of at.hart at.address at.opaque memory)

abbrev pub board_shown : Power → Reason → Bool → Machine → Board
board_shown powers.On reason down m = On (record { machine = m; stands = standing reason None; down = down })
board_shown (powers.Off at) reason down m = Off (standing reason (image_at m.memory at))
board_shown powers.Ended reason down m = Ended (standing reason None)

-- the hart of an image is one of the board
abbrev pub IsKnown : ℕ → Power → Type 0
IsKnown harts powers.On = Unit {0}
IsKnown harts (powers.Off None) = Unit {0}
IsKnown harts (powers.Off (Some at)) = at.hart < harts
IsKnown harts powers.Ended = Unit {0}

abbrev pub status_of : Board → Status
status_of (On l) = statuses.On
status_of (Off s) = statuses.Off
status_of (Ended s) = statuses.Ended

-- A board of that size, and the parts of which it is shown: what they hold beside is not seen while it is off.
pub record Sized : Type 0 where
  pub size : Size
  pub board : Board
  pub machine : Machine
  pub power : Power
  pub reason : Reason
  pub down : Bool

abbrev pub sized : Power → Reason → Bool → Machine → Sized
sized power reason down m =
    record { size = m.size; board = board_shown power reason down m; machine = m; power = power; reason = reason; down = down }

-- the same board, but for its machine
abbrev pub with_machine : Machine → Sized → Sized
with_machine m b = sized b.power b.reason b.down m
