-- The state of a hart in the words of the SBI specification 2.0, chapter HSM, and how the words and the views
-- of the seats say it.
use Rattle.std.specs.Prelude.{◌≡◌, ◌≢◌, ◌⊎◌, ℕ, ◌+◌, ◌*◌, ◌<◌, Bool, true, false, List, ◌==◌, slice_index, if◌then◌else◌, Option, Some, None}
use Rattle.std.specs.Int.{bit_at}
use mathlib.Core.Option.{some}
use lib.ListN.{get_elem?}
use Rattle.atomic_table.specs.Table.{State}
use Rattle.tallies.specs.Sums.{total}
use Rattle.hsm.specs.declared.view.Stage.{Stage}
use Rattle.hsm.specs.declared.view.Stage.TheVariants.{Out, Ready, Addressed, Loaded, Running, Suspended, Quiet}
use Rattle.hsm.specs.Words.{HartView, HartSeatView}
use Rattle.hsm.specs.Rule.{claim_of, entry_of, did, HartInvariant, stands}

-- STOPPED, START_PENDING at an address with an opaque value, STARTED or SUSPENDED
pub data HartState : Type 0 where
  stopped : HartState
  start_pending : ℕ → ℕ → HartState
  started : HartState
  suspended : HartState

-- 1 where a start with this address and opaque value is pending
abbrev pub awaits : HartState → ℕ → ℕ → ℕ
awaits (start_pending b d) a o = if b == a then (if d == o then 1 else 0) else 0
awaits _ a o = 0

-- what the first word says of a hart
abbrev pub Says : ℕ → ℕ → HartState → Type 0
Says found h stopped = bit_at found h ≡ 0
Says found h (start_pending a o) = (bit_at found h ≡ 1) × (bit_at found (16 + h) ≡ 0)
Says found h started = (bit_at found h ≡ 1) × (bit_at found (16 + h) ≡ 1) × (bit_at found (24 + h) ≡ 0)
Says found h suspended = (bit_at found h ≡ 1) × (bit_at found (16 + h) ≡ 1) × (bit_at found (24 + h) ≡ 1)

-- the argument words of a pending start
abbrev pub HasArgumentWords : List ℕ → ℕ → HartState → Type 0
HasArgumentWords words h (start_pending a o) = (slice_index words (1 + 2 * h) ≡ a) × (slice_index words (2 + 2 * h) ≡ o)
HasArgumentWords words h _ = Unit {0}

-- ---- what holds between any two steps
-- The ledger of starts. For each hart the words say a state, and for each address and opaque value the claims
-- that found the hart unclaimed, over all seats, are the entries with just these, and one more where it is
-- START_PENDING with them. Once it is armed, its argument words hold them.
abbrev pub StartsLedger : Type 0
StartsLedger = (harts boot : ℕ) (s : State (Unit {0}) HartSeatView) → HartInvariant harts boot s → (h : ℕ) → h < harts
    → (x : HartState) × Says (slice_index s.words 0) h x
    × ((a o : ℕ) → total (did (claim_of h a o)) s.views ≡ total (did (entry_of h a o)) s.views + awaits x a o)
    × (bit_at (slice_index s.words 0) (8 + h) ≡ 1 → HasArgumentWords s.words h x)

-- while some seat has a quiet hart, every other hart is STOPPED
abbrev pub QuietLaw : Type 0
QuietLaw =
    (harts boot : ℕ) (s : State (Unit {0}) HartSeatView) → HartInvariant harts boot s
    → (id : ℕ) (c : HartSeatView) (h : ℕ) → get_elem? s.views id ≡ some c → stands h Quiet c.harts
    → (t : ℕ) → t < harts → t ≢ h → Says (slice_index s.words 0) t stopped

-- ---- the state by the views
-- the hart of a seat is STARTED, quiet or not
abbrev pub IsStarted : ℕ → List HartView → Type 0
IsStarted h vs = stands h Running vs ⊎ stands h Quiet vs

-- the hart of a seat stands where each call leaves the one that acts: it has no start in flight, and is not
-- in the midst of an entry
abbrev pub IsBetweenCalls : ℕ → List HartView → Type 0
IsBetweenCalls h vs = stands h Out vs ⊎ (stands h Running vs ⊎ (stands h Suspended vs ⊎ stands h Quiet vs))

-- not entered
abbrev pub is_outside : Stage → Bool
is_outside Out = true
is_outside Ready = true
is_outside (Addressed a) = true
is_outside (Loaded a o) = true
is_outside _ = false

-- STARTED with no start of its own in flight
abbrev pub is_running : Stage → Bool
is_running Running = true
is_running Quiet = true
is_running _ = false

abbrev pub is_suspended : Stage → Bool
is_suspended Suspended = true
is_suspended _ = false

abbrev pub IsAt : HartState → Stage → Type 0
IsAt stopped st = is_outside st ≡ true
IsAt (start_pending a o) st = is_outside st ≡ true
IsAt started st = is_running st ≡ true
IsAt suspended st = is_suspended st ≡ true

-- the hart is in this state, as the view of a seat of all harts tells
abbrev pub IsIn : HartSeatView → ℕ → HartState → Type 0
IsIn c h x =
    (st : Stage) × stands h st c.harts × IsAt x st
    × ((a o : ℕ) → did (claim_of h a o) c ≡ did (entry_of h a o) c + awaits x a o)

-- the states of all harts of the board, as the view of a seat of all harts tells
abbrev pub Shows : ℕ → HartSeatView → (ℕ → HartState) → Type 0
Shows harts c table = (h : ℕ) → h < harts → IsIn c h (table h)

-- What a seat of all harts knows of the first word: it says the states that the view shows, and every claimed
-- hart is armed.
abbrev pub Tells : ℕ → HartSeatView → ℕ → Type 0
Tells harts c found =
    (table : ℕ → HartState) → Shows harts c table → (h : ℕ) → h < harts
    → Says found h (table h) × (bit_at found (8 + h) ≡ bit_at found h)

-- ---- the calls as functions of the table of states
-- the state of one hart changes
abbrev pub change_at : ℕ → (HartState → HartState) → (ℕ → HartState) → ℕ → HartState
change_at h f table k = if k == h then f (table k) else table k

abbrev pub is_stopped : HartState → Bool
is_stopped stopped = true
is_stopped _ = false

-- hart_start: a stopped hart is pending with the address and the opaque value, any other stays as it is
abbrev pub grant : ℕ → ℕ → HartState → HartState
grant a o stopped = start_pending a o
grant a o (start_pending b d) = start_pending b d
grant a o started = started
grant a o suspended = suspended

-- what a hart enters with
abbrev pub entry : HartState → Option (ℕ × ℕ)
entry (start_pending a o) = Some (a, o)
entry _ = None

-- a pending hart begins, any other stays as it is
abbrev pub begin : HartState → HartState
begin (start_pending a o) = started
begin stopped = stopped
begin started = started
begin suspended = suspended
