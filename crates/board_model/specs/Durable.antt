-- The durable state of the board, the changes that commands make to it, and which of them are refused.
-- Source: docs/DURABLE.md.
use Rattle.std.specs.Prelude.{◌≡◌, ℕ, zero, suc, ◌+◌, ◌-◌, ◌^◌, ◌<◌, ◌≤◌, ◌||◌, Bool, true, false, List, [], ◌∷◌, Option, Some, None, IfSome, length, replicate, nat_lt, ⊤, ◌==◌, is_some, if◌then◌else◌}
use Rattle.board_model.specs.Shapes.{Size, ram_bytes_of}
use Rattle.board_model.specs.declared.durable.Reason.{Reason}
use Rattle.board_model.specs.declared.durable.Reason.TheVariants.{NoReason}
use Rattle.board_model.specs.declared.durable.Trial.{Trial}

-- What the disk keeps of a suspended board. The memory is a list of bytes.
pub record Image : Type 0 where
  pub serial : ℕ
  pub hart : ℕ
  pub address : ℕ
  pub opaque : ℕ
  pub memory : List ℕ

-- The durable state: the boot slot, the reset reason, the next serial, and where they stand the trial of the
-- slot (the slot to fall back to, and how many boots are left) and an image.
pub record DurableState : Type 0 where
  pub slot : ℕ
  pub reason : Reason
  pub next : ℕ
  pub trial : Option Trial
  pub image : Option Image

-- What a format leaves.
abbrev pub formatted : DurableState
formatted = record { slot = 0; reason = NoReason; next = 0; trial = None; image = None }

-- The durable commands, each with all that it carries; Suspend has hart, address, opaque value and memory.
pub data Change : Type 0 where
  Slot : ℕ → Change
  Reset : Reason → Change
  Suspend : ℕ → ℕ → ℕ → List ℕ → Change
  Consume : Change
  Discard : Change
  Tries : ℕ → ℕ → Change
  Good : Change
  Attempt : Change

-- The number with which the table of commands refuses, where it does.
abbrev pub refusal_of : DurableState → Change → Option ℕ
refusal_of s (Slot n) = if nat_lt 3 n then Some 9 else None
refusal_of s (Reset r) = None
refusal_of s (Suspend hart address opaque memory) = if s.next == 2 ^ 64 - 1 then Some 12 else None
refusal_of s Consume = if is_some s.image then None else Some 8
refusal_of s Discard = if is_some s.image then None else Some 8
refusal_of s (Tries n boots) =
    if nat_lt 3 n then Some 9 else (if (boots == 0) || nat_lt 7 boots then Some 19 else None)
refusal_of s Good = if is_some s.trial then None else Some 20
refusal_of s Attempt = if is_some s.trial then None else Some 20

-- the slot to fall back to: that of the trial which stands, else the boot slot
abbrev pub fallback_by : ℕ → Option Trial → ℕ
fallback_by slot None = slot
fallback_by slot (Some t) = t.fallback

-- one boot of the trial is used up; where none was left the slot falls back
abbrev pub booted_by : DurableState → ℕ → ℕ → DurableState
booted_by s fallback zero = record s { slot = fallback; trial = None }
booted_by s fallback (suc left) = record s { trial = Some (record { fallback = fallback; left = left }) }

abbrev pub attempted : DurableState → Option Trial → DurableState
attempted s None = s
attempted s (Some t) = booted_by s t.fallback t.left

-- The state after a command, and nothing else changes.
abbrev pub after : DurableState → Change → DurableState
after s (Slot n) = record s { slot = n; trial = None }
after s (Reset r) = record s { reason = r }
after s (Suspend hart address opaque memory) =
    record s {
      image = Some (record { serial = s.next; hart = hart; address = address; opaque = opaque; memory = memory });
      next = s.next + 1;
    }
after s Consume = record s { image = None }
after s Discard = record s { image = None }
after s (Tries n boots) =
    record s { slot = n; trial = Some (record { fallback = fallback_by s.slot s.trial; left = boots }) }
after s Good = record s { trial = None }
after s Attempt = attempted s s.trial

-- Whether the command ends the life in which it is issued.
abbrev pub ends_life : Change → Bool
ends_life (Slot n) = false
ends_life (Reset r) = true
ends_life (Suspend hart address opaque memory) = true
ends_life Consume = false
ends_life Discard = false
ends_life (Tries n boots) = false
ends_life Good = false
ends_life Attempt = false

-- What a command does to the image that stands.
pub data ImageStep : Type 0 where
  MakesImage : ImageStep
  DropsImage : ImageStep
  LeavesImage : ImageStep

abbrev pub image_step : Change → ImageStep
image_step (Slot n) = LeavesImage
image_step (Reset r) = LeavesImage
image_step (Suspend hart address opaque memory) = MakesImage
image_step Consume = DropsImage
image_step Discard = DropsImage
image_step (Tries n boots) = LeavesImage
image_step Good = LeavesImage
image_step Attempt = LeavesImage

-- What a command does to the trial of a slot: it settles or begins one, it is a boot of it, or it leaves it.
pub data TrialStep : Type 0 where
  DecidesTrial : TrialStep
  CountsBoot : TrialStep
  SparesTrial : TrialStep

abbrev pub trial_step : Change → TrialStep
trial_step (Slot n) = DecidesTrial
trial_step (Reset r) = SparesTrial
trial_step (Suspend hart address opaque memory) = SparesTrial
trial_step Consume = SparesTrial
trial_step Discard = SparesTrial
trial_step (Tries n boots) = DecidesTrial
trial_step Good = DecidesTrial
trial_step Attempt = CountsBoot

-- The numbers with which the table refuses at all.
abbrev pub is_table_number : ℕ → Bool
is_table_number n = (n == 8) || ((n == 9) || ((n == 12) || ((n == 19) || (n == 20))))

-- The slot is at most 3, and so is that to which a trial falls back, which has at most 7 boots.
abbrev pub HasValidNumbers : DurableState → Type 0
HasValidNumbers s = (s.slot ≤ 3) × IfSome s.trial (λ t. (t.fallback ≤ 3) × (t.left ≤ 7))

-- The state after a list of commands, the first of them first.
abbrev pub fold : DurableState → List Change → DurableState
fold s [] = s
fold s (c ∷ cs) = fold (after s c) cs

-- An image with that serial stands.
abbrev pub HasImage : DurableState → ℕ → Type 0
HasImage s serial = (i : Image) × (s.image ≡ Some i) × (i.serial ≡ serial)

-- A standing image has a serial that was given out: it is below the next one.
abbrev pub IsOrdered : DurableState → Type 0
IsOrdered s = IfSome s.image (λ i. i.serial < s.next)

-- An image that stands has the memory of a board of that size.
abbrev pub IsWhole : Size → DurableState → Type 0
IsWhole size s = IfSome s.image (λ i. length i.memory ≡ ram_bytes_of size)

-- A suspension carries such a memory.
abbrev pub CarriesWhole : Size → Change → Type 0
CarriesWhole size (Suspend hart address opaque memory) = length memory ≡ ram_bytes_of size
CarriesWhole size c = Unit {0}

-- so many boots of the slot, none of which was confirmed
abbrev pub attempts : ℕ → List Change
attempts n = replicate n Attempt

abbrev pub Spares : TrialStep → Type 0
Spares DecidesTrial = ⊥
Spares CountsBoot = ⊥
Spares SparesTrial = ⊤

-- the command leaves the trial: it is a reset, a suspension, or what drops an image
abbrev pub LeavesTrial : Change → Type 0
LeavesTrial c = Spares (trial_step c)
