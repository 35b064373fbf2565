-- The words of the hart table. The first word has four bits for each hart h: bit h says that it is claimed,
-- bit 8 + h that it is armed, bit 16 + h that it has entered, bit 24 + h that it is suspended. Words 1 + 2h
-- and 2 + 2h are the argument words of hart h: its address and its opaque value.
use Rattle.std.specs.Prelude.{◌≡◌, ℕ, ◌+◌, ◌*◌, ◌<◌, List, slice_index}
use Rattle.std.specs.Int.{bit_at}
use Rattle.hsm.specs.declared.view.Stage.{Stage}
use Rattle.hsm.specs.declared.view.Action.{Action}
use Rattle.tallies.specs.declared.view.HartNotes.{HartNotes}
use Rattle.tallies.specs.declared.view.SeatNotes.{SeatNotes}

-- a hart of a seat: where it stands, and its steps
abbrev pub HartView : Type 0
HartView = HartNotes Stage Action

-- the harts of a seat
abbrev pub HartSeatView : Type 0
HartSeatView = SeatNotes Stage Action

-- what the words say of each hart: four bits, and two numbers
pub record WordBits : Type 0 where
  pub claimed : ℕ → ℕ
  pub armed : ℕ → ℕ
  pub entered : ℕ → ℕ
  pub suspended : ℕ → ℕ
  pub address : ℕ → ℕ
  pub opaque : ℕ → ℕ

abbrev pub word_bits : List ℕ → WordBits
word_bits ws = record {
  claimed = λ h. bit_at (slice_index ws 0) h;
  armed = λ h. bit_at (slice_index ws 0) (8 + h);
  entered = λ h. bit_at (slice_index ws 0) (16 + h);
  suspended = λ h. bit_at (slice_index ws 0) (24 + h);
  address = λ h. slice_index ws (1 + 2 * h);
  opaque = λ h. slice_index ws (2 + 2 * h);
}

-- two boards say the same of the harts below a number
pub record Same (harts : ℕ) (m m' : WordBits) : Type 0 where
  pub claimed : (h : ℕ) → h < harts → m'.claimed h ≡ m.claimed h
  pub armed : (h : ℕ) → h < harts → m'.armed h ≡ m.armed h
  pub entered : (h : ℕ) → h < harts → m'.entered h ≡ m.entered h
  pub suspended : (h : ℕ) → h < harts → m'.suspended h ≡ m.suspended h
  pub address : (h : ℕ) → h < harts → m'.address h ≡ m.address h
  pub opaque : (h : ℕ) → h < harts → m'.opaque h ≡ m.opaque h
