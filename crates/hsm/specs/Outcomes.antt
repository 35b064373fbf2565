-- What each step of the table tells its seat, and the table at the start.
use Rattle.std.specs.Prelude.{◌≡◌, ◌≢◌, ◌↔◌, ℕ, ◌+◌, ◌*◌, ◌<◌, ◌%◌, ◌^◌, Bool, true, List, ◌==◌, if◌then◌else◌, IsTrue}
use Rattle.std.specs.Int.{bit_at}
use Rattle.atomic_table.specs.Table.{Step}
use Rattle.tallies.specs.Notes.{SeatState, seat_notes, Notes, opening_from}
use Rattle.hsm.specs.declared.view.Stage.{Stage}
use Rattle.hsm.specs.declared.view.Stage.TheVariants.{Out, Ready, Addressed, Loaded, Running, Claiming, Half, Stored, Suspended, Quiet}
use Rattle.hsm.specs.declared.view.Action.TheVariants.{Claimed, Wrote, Armed, Looked, Read, Entered, Stopped, Suspended as DidSuspend, Woke, Quieted, Unquieted}
use Rattle.hsm.specs.Words.{HartView, HartSeatView}
use Rattle.hsm.specs.Rule.{HasSteps, IsSite, stands}
use Rattle.hsm.specs.States.{HartState, stopped, start_pending, started, IsStarted, IsBetweenCalls, Shows, Tells}

-- ---- what each step tells
-- where a hart stands after a claim
abbrev pub after_claim : ℕ → ℕ → ℕ → ℕ → Stage
after_claim t a o found = if bit_at found t == 0 then Claiming t a o else Running

-- a look by a hart that hasn't entered
abbrev pub after_look : ℕ → ℕ → Stage
after_look h found = if bit_at found (8 + h) == 1 then (if bit_at found (16 + h) == 0 then Ready else Out) else Out

abbrev pub Claims : ℕ → ℕ → ℕ → ℕ → ℕ → Step (Unit {0}) → SeatState HartSeatView → ℕ → SeatState HartSeatView → Type 0
Claims harts h t a o st m found m' =
    Notes h (after_claim t a o found) (Claimed t a o found) m m' × Tells harts m.0 found

abbrev pub PutsAddress : ℕ → ℕ → ℕ → ℕ → Step (Unit {0}) → SeatState HartSeatView → ℕ → SeatState HartSeatView → Type 0
PutsAddress h t a o st m found m' = Notes h (Half t a o) (Wrote (1 + 2 * t) a) m m'

abbrev pub PutsOpaque : ℕ → ℕ → ℕ → ℕ → Step (Unit {0}) → SeatState HartSeatView → ℕ → SeatState HartSeatView → Type 0
PutsOpaque h t a o st m found m' = Notes h (Stored t a o) (Wrote (2 + 2 * t) o) m m'

abbrev pub Arms : ℕ → ℕ → Step (Unit {0}) → SeatState HartSeatView → ℕ → SeatState HartSeatView → Type 0
Arms h t st m found m' = Notes h Running (Armed t) m m'

-- Freshness: what the first word says of the harts of the seat itself.
pub record IsUpToDate (found : ℕ) (vs : List HartView) : Type 0 where
  pub started : (k : ℕ) → IsStarted k vs
      → (bit_at found k ≡ 1) × (bit_at found (16 + k) ≡ 1) × (bit_at found (24 + k) ≡ 0)
  pub suspended : (k : ℕ) → stands k Suspended vs
      → (bit_at found k ≡ 1) × (bit_at found (16 + k) ≡ 1) × (bit_at found (24 + k) ≡ 1)
  pub outside : (k : ℕ) → stands k Out vs → bit_at found (16 + k) ≡ 0

-- a look by a hart that stands at this stage, which it keeps
abbrev pub Looks : ℕ → ℕ → Stage → Step (Unit {0}) → SeatState HartSeatView → ℕ → SeatState HartSeatView → Type 0
Looks harts h st s m found m' = Notes h st (Looked found) m m' × IsUpToDate found m.0.harts × Tells harts m.0 found

abbrev pub PollsOutside : ℕ → ℕ → Step (Unit {0}) → SeatState HartSeatView → ℕ → SeatState HartSeatView → Type 0
PollsOutside harts h st m found m' = Notes h (after_look h found) (Looked found) m m' × Tells harts m.0 found

abbrev pub ReadsAddress : ℕ → Step (Unit {0}) → SeatState HartSeatView → ℕ → SeatState HartSeatView → Type 0
ReadsAddress h st m found m' = Notes h (Addressed found) (Read (1 + 2 * h) found) m m' × IsSite found

abbrev pub ReadsOpaque : ℕ → ℕ → Step (Unit {0}) → SeatState HartSeatView → ℕ → SeatState HartSeatView → Type 0
ReadsOpaque h a st m found m' = Notes h (Loaded a found) (Read (2 + 2 * h) found) m m'

-- the triple entered is the open one
abbrev pub IsOpenStart : ℕ → HartSeatView → ℕ → ℕ → ℕ → Type 0
IsOpenStart harts c h a o = (table : ℕ → HartState) → Shows harts c table → table h ≡ start_pending a o

abbrev pub Enters : ℕ → ℕ → ℕ → ℕ → List ℕ → Step (Unit {0}) → SeatState HartSeatView → ℕ → SeatState HartSeatView → Type 0
Enters harts h a o ps st m found m' = Notes h Running (Entered h a o ps) m m' × IsOpenStart harts m.0 h a o

abbrev pub Stops : ℕ → Step (Unit {0}) → SeatState HartSeatView → ℕ → SeatState HartSeatView → Type 0
Stops h st m found m' = Notes h Out (Stopped found) m m'

abbrev pub Suspends : ℕ → Step (Unit {0}) → SeatState HartSeatView → ℕ → SeatState HartSeatView → Type 0
Suspends h st m found m' = Notes h Suspended (DidSuspend found) m m'

abbrev pub Wakes : ℕ → Step (Unit {0}) → SeatState HartSeatView → ℕ → SeatState HartSeatView → Type 0
Wakes h st m found m' = Notes h Running (Woke found) m m'

-- the hart alone is claimed
abbrev pub is_alone : ℕ → ℕ → ℕ → Bool
is_alone harts h found = found % 2 ^ harts == 2 ^ h

abbrev pub after_quiet : ℕ → ℕ → ℕ → Stage
after_quiet harts h found = if is_alone harts h found then Quiet else Running

abbrev pub Quiets : ℕ → ℕ → Step (Unit {0}) → SeatState HartSeatView → ℕ → SeatState HartSeatView → Type 0
Quiets harts h st m found m' = Notes h (after_quiet harts h found) (Quieted found) m m'
    × (IsTrue (is_alone harts h found) ↔ ((t : ℕ) → t < harts → t ≢ h → bit_at found t ≡ 0))
    × (stands h Quiet m.0.harts → is_alone harts h found ≡ true)
    × Tells harts m.0 found

abbrev pub Unquiets : ℕ → Step (Unit {0}) → SeatState HartSeatView → ℕ → SeatState HartSeatView → Type 0
Unquiets h st m found m' = Notes h Running (Unquieted found) m m'

-- A look that a seat does not note. The seat stays as it was; where it is of all harts and each is between calls, it shows some states;
-- and its harts have their steps in the log of the table.
abbrev pub Sees : ℕ → ℕ → Step (Unit {0}) → SeatState HartSeatView → ℕ → SeatState HartSeatView → Type 0
Sees harts boot st m found m' =
    (m'.0 ≡ m.0) × (m'.1 ≡ m.1)
    × (((h : ℕ) → h < harts → IsBetweenCalls h m.0.harts) → (states : ℕ → HartState) × Shows harts m.0 states)
    × HasSteps harts boot m.0.harts

-- ---- looks at the one seat of all harts that it does not note
abbrev pub IsUnnoted : SeatState HartSeatView → SeatState HartSeatView → Type 0
IsUnnoted m m' = (m'.0 ≡ m.0) × (m'.1 ≡ m.1)

-- what is found is the address, or the opaque value, with which a hart is START_PENDING, where it is
abbrev pub IsStartAddress : ℕ → HartSeatView → ℕ → ℕ → Type 0
IsStartAddress harts c h found = (states : ℕ → HartState) (a o : ℕ) → Shows harts c states → states h ≡ start_pending a o
    → (found ≡ a) × IsSite found

abbrev pub IsStartOpaque : ℕ → HartSeatView → ℕ → ℕ → Type 0
IsStartOpaque harts c h found = (states : ℕ → HartState) (a o : ℕ) → Shows harts c states → states h ≡ start_pending a o
    → found ≡ o

-- a quiet hart of the seat finds every other one STOPPED
abbrev pub IsAloneIn : ℕ → List HartView → ℕ → Type 0
IsAloneIn harts vs found = (h t : ℕ) → stands h Quiet vs → t < harts → t ≢ h → bit_at found t ≡ 0

-- some hart is not START_PENDING: it is claimed where it has entered
abbrev pub HasSettled : ℕ → ℕ → Type 0
HasSettled harts found = (h : ℕ) × (h < harts) × (bit_at found h ≡ bit_at found (16 + h))

abbrev pub Peeks : ℕ → Step (Unit {0}) → SeatState HartSeatView → ℕ → SeatState HartSeatView → Type 0
Peeks harts st m found m' =
    IsUnnoted m m' × Tells harts m.0 found × IsAloneIn harts m.0.harts found × HasSettled harts found

abbrev pub PeeksAddress : ℕ → ℕ → Step (Unit {0}) → SeatState HartSeatView → ℕ → SeatState HartSeatView → Type 0
PeeksAddress harts h st m found m' = IsUnnoted m m' × IsStartAddress harts m.0 h found

abbrev pub PeeksOpaque : ℕ → ℕ → Step (Unit {0}) → SeatState HartSeatView → ℕ → SeatState HartSeatView → Type 0
PeeksOpaque harts h st m found m' = IsUnnoted m m' × IsStartOpaque harts m.0 h found

-- ---- the table at the start
-- one hart runs, and no other has entered
abbrev pub opening_stage : ℕ → ℕ → Stage
opening_stage lone h = if h == lone then Running else Out

abbrev pub opening_view : ℕ → ℕ → HartSeatView
opening_view harts lone = seat_notes (opening_from (opening_stage lone) 0 harts)

-- the states at the start
abbrev pub opening_states : ℕ → ℕ → HartState
opening_states first k = if k == first then started else stopped
