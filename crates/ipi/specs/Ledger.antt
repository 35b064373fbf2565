-- The rule of the pending table. Word t has a bit for each sender of the hart t.
use Rattle.std.specs.Prelude.{◌≡◌, ℕ, ◌+◌, ◌-◌, ◌^◌, ◌<◌, ◌≤◌, Bool, true, false, List, [], ◌∷◌, ◌==◌, slice_index, bit_or, if◌then◌else◌}
use Rattle.std.specs.Int.{bit_at}
use Rattle.atomic_table.specs.Table.{State, Step}
use Rattle.tallies.specs.Sums.{total}
use Rattle.tallies.specs.Notes as notes
use Rattle.tallies.specs.Notes.{SeatState, seat_notes, seats, Notes, opening_from}
use Rattle.tallies.specs.Logs.{Reading}
use Rattle.tallies.specs.Rules.{Everywhere, HasLog, IsLogged}
use Rattle.tallies.specs.declared.view.HartNotes.{HartNotes}
use Rattle.tallies.specs.declared.view.SeatNotes.{SeatNotes}
use Rattle.ipi.specs.declared.view.IpiAction.{IpiAction}
use Rattle.ipi.specs.declared.view.IpiAction.TheVariants.{Raised, Took, Looked}

-- a hart of a seat, with its steps; it has one stage
abbrev pub PendingView : Type 0
PendingView = HartNotes (Unit {0}) IpiAction

-- the harts of a seat
abbrev pub PendingSeatView : Type 0
PendingSeatView = SeatNotes (Unit {0}) IpiAction

-- a raise of the target that found the sender's bit clear
abbrev pub raise_of : ℕ → ℕ → IpiAction → ℕ
raise_of sender target (Raised t found) = if t == target then 1 - bit_at found sender else 0
raise_of sender target (Took found) = 0
raise_of sender target (Looked found) = 0

-- a take whose answer holds the sender
abbrev pub take_of : ℕ → IpiAction → ℕ
take_of sender (Raised t found) = 0
take_of sender (Took found) = bit_at found sender
take_of sender (Looked found) = 0

abbrev pub raised_by : ℕ → ℕ → PendingView → ℕ
raised_by sender target d = if d.hart == sender then total (raise_of sender target) d.actions else 0

abbrev pub taken_by : ℕ → ℕ → PendingView → ℕ
taken_by sender target d = if d.hart == target then total (take_of sender) d.actions else 0

abbrev pub raised : ℕ → ℕ → PendingSeatView → ℕ
raised sender target c = total (raised_by sender target) c.harts

abbrev pub taken : ℕ → ℕ → PendingSeatView → ℕ
taken sender target c = total (taken_by sender target) c.harts

-- the hart raised for itself and has not taken since
abbrev pub owes : ℕ → List IpiAction → Bool
owes h [] = false
owes h (Raised t found ∷ ds) = if t == h then true else owes h ds
owes h (Took found ∷ ds) = false
owes h (Looked found ∷ ds) = owes h ds

abbrev pub IsOwed : List ℕ → PendingView → Type 0
IsOwed words d = owes d.hart d.actions ≡ true → bit_at (slice_index words d.hart) d.hart ≡ 1

-- ---- the actions as steps
-- the hart in whose word an action of the hart h was
abbrev pub word_of : ℕ → IpiAction → ℕ
word_of h (Raised t found) = t
word_of h (Took found) = h
word_of h (Looked found) = h

-- what it says that it found there
abbrev pub found_by : IpiAction → ℕ → ℕ
found_by (Raised t found) word = found
found_by (Took found) word = found
found_by (Looked found) word = found

-- and what it left there
abbrev pub left_by : ℕ → IpiAction → ℕ → ℕ
left_by h (Raised t found) word = bit_or word (2 ^ h)
left_by h (Took found) word = 0
left_by h (Looked found) word = word

abbrev pub reading : Reading IpiAction
reading = record { word_of = word_of; found_by = found_by; left_by = left_by }

-- the words at the start
abbrev pub first_word : ℕ → ℕ
first_word t = 0

-- There is one log of all steps of a table. Each of these harts has just its own steps of it.
abbrev pub HasSteps : ℕ → List PendingView → Type 0
HasSteps = HasLog reading first_word

-- The rule. The ledger: the raises that found a pair clear are the takes that answered it, and one more if it
-- is pending. And a log of all steps.
pub record PendingInvariant (harts : ℕ) (s : State (Unit {0}) PendingSeatView) : Type 0 where
  pub steps : IsLogged reading first_word harts harts s
  pub ledger : (sender target : ℕ) → target < harts
      → total (raised sender target) s.views
      ≡ total (taken sender target) s.views + bit_at (slice_index s.words target) sender
  pub owed : Everywhere (IsOwed s.words) s.views

-- a view that has one more action of the hart, at whatever place, and nothing else is new
abbrev pub HasNoted : ℕ → IpiAction → List PendingView → List PendingView → Type 0
HasNoted h x = notes.HasNoted h tt x

-- no step yet
abbrev pub opening_pending_view : ℕ → PendingSeatView
opening_pending_view harts = seat_notes (opening_from (λ _. tt) 0 harts)

-- the seat has every hart
abbrev pub HasEveryHart : ℕ → PendingSeatView → Type 0
HasEveryHart harts c = (h : ℕ) → h < harts → seats h c ≡ 1

-- The pairs of a seat of all harts are those of the word found
abbrev pub Tells : ℕ → PendingSeatView → ℕ → ℕ → Type 0
Tells harts c target found =
    HasEveryHart harts c → (sender : ℕ) → raised sender target c ≡ taken sender target c + bit_at found sender

-- what the hart did
abbrev pub actions_of : ℕ → List PendingView → List IpiAction
actions_of h [] = []
actions_of h (d ∷ ds) = if d.hart == h then d.actions else actions_of h ds

-- the hart of the seat raised for itself and has not taken since
abbrev pub IsOwing : ℕ → PendingSeatView → Type 0
IsOwing h c = owes h (actions_of h c.harts) ≡ true

-- Freshness: then the word of the hart has its own bit
abbrev pub OwnsUp : PendingSeatView → ℕ → ℕ → Type 0
OwnsUp c h found = IsOwing h c → bit_at found h ≡ 1

-- only harts of the board are senders
abbrev pub InRange : ℕ → ℕ → Type 0
InRange harts found = (sender : ℕ) → harts ≤ sender → bit_at found sender ≡ 0

-- what a step tells
abbrev pub Raises : ℕ → ℕ → Step (Unit {0}) → SeatState PendingSeatView → ℕ → SeatState PendingSeatView → Type 0
Raises harts by st m found m' = Notes by tt (Raised st.word found) m m' × Tells harts m.0 st.word found

abbrev pub Takes : ℕ → Step (Unit {0}) → SeatState PendingSeatView → ℕ → SeatState PendingSeatView → Type 0
Takes harts st m found m' =
    Notes st.word tt (Took found) m m' × Tells harts m.0 st.word found × OwnsUp m.0 st.word found × InRange harts found

abbrev pub Looks : ℕ → Step (Unit {0}) → SeatState PendingSeatView → ℕ → SeatState PendingSeatView → Type 0
Looks harts st m found m' =
    Notes st.word tt (Looked found) m m' × Tells harts m.0 st.word found × OwnsUp m.0 st.word found
    × InRange harts found

-- a look at the word of a hart that a seat does not note: it stays as it was
abbrev pub Peeks : ℕ → Step (Unit {0}) → SeatState PendingSeatView → ℕ → SeatState PendingSeatView → Type 0
Peeks harts st m found m' =
    ((m'.0 ≡ m.0) × (m'.1 ≡ m.1)) × Tells harts m.0 st.word found × InRange harts found

-- a look by which the harts of a seat, which stays as it was, are known to have their steps in the log of the table
abbrev pub Sees : ℕ → Step (Unit {0}) → SeatState PendingSeatView → ℕ → SeatState PendingSeatView → Type 0
Sees harts st m found m' = ((m'.0 ≡ m.0) × (m'.1 ≡ m.1)) × HasSteps harts m.0.harts
