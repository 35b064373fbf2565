-- What a failure is, of which the verdict says that it was found. Source: docs/CHECKING.md, "What is asked".
use Rattle.std.specs.Prelude.{◌≡◌, ◌≢◌, ◌⊎◌, ◌<◌, ◌≤◌, ◌+◌, ℕ, false, List, None}
use Rattle.board_model.specs.Shapes.{Size, ram_bytes_of}
use Rattle.board_model.specs.declared.durable.Reason.TheVariants.{SystemFailure}
use Rattle.hsm.specs.States.{started, stopped, suspended}
use Rattle.machine.specs.Machine.{Machine, hart_at, state_at}
use Rattle.model_board.specs.Boards.{Board, On, Off, Ended}
use Rattle.model_board.specs.Events.{GoesOn, IsEnd}
use Rattle.state_space.specs.Orders.{CanEnd}
use Rattle.turns.specs.Turns.{has_pending}
use Rattle.board_space.specs.Space.{Asked, Happens}
use Rattle.kernel_check.specs.Shown.{IsAsExpected}
use Rattle.kernel_check.specs.Tells.{Comes, EndsBy, EndsWith}
use Rattle.kernel_check.specs.declared.facts.EndShown.{EndShown}
use Rattle.kernel_check.specs.declared.facts.EndShown.TheVariants as shown
use Rattle.kernel_check.specs.declared.given.FailureKind.{FailureKind}
use Rattle.kernel_check.specs.declared.given.FailureKind.TheVariants as failures
use Rattle.kernel_check.specs.declared.looks.Look.{Look}

-- it is on, and its machine is so
abbrev pub IsOnAs : (Machine → Type 0) → Board → Type 0
IsOnAs Is (On l) = Is l.machine
IsOnAs Is (Off s) = ⊥
IsOnAs Is (Ended s) = ⊥

-- ---- a hart that traps
-- no byte of RAM has that address
abbrev pub IsOutside : Size → ℕ → Type 0
IsOutside size address = (address < 0x80000000) ⊎ (0x80000000 + ram_bytes_of size ≤ address)

-- A started hart of the board stands outside of RAM, and so does its handler: each of its turns traps, and leads it there again.
pub record IsTrappedBy (m : Machine) (hart : ℕ) : Type 0 where
  pub within : hart < m.size.harts
  pub started : state_at m hart ≡ started
  pub stands : IsOutside m.size (hart_at m hart).pc
  pub handler : IsOutside m.size (hart_at m hart).stvec

abbrev pub IsTrapped : Machine → Type 0
IsTrapped m = (hart : ℕ) × IsTrappedBy m hart

-- ---- harts that wait for an interrupt that no hart sends
-- a hart has stopped, or it is suspended and no interrupt is pending for it
abbrev pub AwaitsNone : Machine → ℕ → Type 0
AwaitsNone m hart = (state_at m hart ≡ stopped) ⊎ ((state_at m hart ≡ suspended) × (has_pending hart m.table.pairs ≡ false))

-- One is suspended, and all the others are too or have stopped. The board does not doze.
pub record IsWaiting (m : Machine) : Type 0 where
  pub hart : ℕ
  pub within : hart < m.size.harts
  pub waits : state_at m hart ≡ suspended
  pub others : (h : ℕ) → h < m.size.harts → AwaitsNone m h
  pub awake : m.doze ≡ None

-- ---- ends that differ
-- the same is shown
abbrev pub AreSame : EndShown → EndShown → Type 0
AreSame (shown.On bytes) (shown.On others) = bytes.items ≡ others.items
AreSame (shown.Shutdown why) (shown.Shutdown other) = why ≡ other
AreSame (shown.On bytes) (shown.Shutdown why) = ⊥
AreSame (shown.Shutdown why) (shown.On bytes) = ⊥

-- not the same is shown
abbrev pub AreOthers : EndShown → EndShown → Type 0
AreOthers (shown.On bytes) (shown.On others) = bytes.items ≢ others.items
AreOthers (shown.Shutdown why) (shown.Shutdown other) = why ≢ other
AreOthers (shown.On bytes) (shown.Shutdown why) = Unit {0}
AreOthers (shown.Shutdown why) (shown.On bytes) = Unit {0}

-- an end that is not as expected, or two that show not the same
abbrev pub Differ : Asked → List Look → Type 0
Differ asked looks =
    (one : EndShown) × EndsWith asked looks one
    × ((IsAsExpected looks one → ⊥) ⊎ ((other : EndShown) × EndsWith asked looks other × AreOthers one other))

-- ---- each kind of failure
-- some events lead to a board that shows it
abbrev pub CanFail : FailureKind → Asked → List Look → Type 0
CanFail failures.Traps asked looks = Comes asked (IsOnAs IsTrapped)
CanFail failures.Fails asked looks = Comes asked (EndsBy SystemFailure)
CanFail failures.Differs asked looks = Differ asked looks
CanFail failures.Stuck asked looks =
    Comes asked (IsOnAs IsWaiting) ⊎ Comes asked (λ b. CanEnd (Happens asked) GoesOn IsEnd b → ⊥)
