-- What the rules of tables of harts have in common, and the laws that hold of each such table between any two
-- steps.
use Rattle.std.specs.Prelude.{◌≡◌, ◌≢◌, ℕ, ◌<◌, ◌≤◌, List, ◌∷◌, length, slice_index, ◌==◌, if◌then◌else◌}
use mathlib.Core.Option.{some}
use lib.ListN.{get_elem?}
use Rattle.atomic_table.specs.Table.{State}
use Rattle.tallies.specs.Sums.{total}
use Rattle.tallies.specs.Books.{Each}
use Rattle.tallies.specs.Notes.{seat_notes, seats, noted}
use Rattle.tallies.specs.Logs.{Log, Reading, IsOfLog, IsTrueLog, word_after, placed, earlier, IsAmong}
use Rattle.tallies.specs.declared.view.HartNotes.{HartNotes}
use Rattle.tallies.specs.declared.view.SeatNotes.{SeatNotes}

module _ {S D : Type 0} where
  -- every hart of the board is in just one seat, and no other hart in any
  pub record AreSeated (harts : ℕ) (views : List (SeatNotes S D)) : Type 0 where
    pub once : (h : ℕ) → h < harts → total (seats h) views ≡ 1
    pub none_else : (h : ℕ) → harts ≤ h → total (seats h) views ≡ 0

  -- what holds of each hart of each seat
  abbrev pub Everywhere : (HartNotes S D → Type 0) → List (SeatNotes S D) → Type 0
  Everywhere P views =
      (id : ℕ) (c : SeatNotes S D) (k : ℕ) (v : HartNotes S D) → get_elem? views id ≡ some c
      → get_elem? c.harts k ≡ some v → P v

  -- each hart of each seat has just its steps of the log, each with its place
  abbrev pub AreInLog : Log D → List (SeatNotes S D) → Type 0
  AreInLog log = Everywhere (λ v. IsOfLog log v.hart v.actions v.places)

  -- There is one log of all steps of a table of so many harts, whose words were first so. Each of these harts has just its own steps of
  -- it, each with its place.
  abbrev pub HasLog : Reading D → (ℕ → ℕ) → ℕ → List (HartNotes S D) → Type 0
  HasLog r first harts vs = (log : Log D) × IsTrueLog r first harts log × Each (λ v. IsOfLog log v.hart v.actions v.places) vs

module _ {S D : Type 0} (r : Reading D) (first : ℕ → ℕ) (harts words : ℕ) where
  -- What the rule of such a table says of its seats and of their steps. The log: all steps in their order, the
  -- newest first, which the views fix, since each has the steps of its hart with their places. The words are
  -- what the log left of those at the start.
  pub record IsLogged (s : State (Unit {0}) (SeatNotes S D)) : Type 0 where
    pub seated : AreSeated harts s.views
    pub log : Log D
    pub is_true : IsTrueLog r first harts log
    pub entered : AreInLog log s.views
    pub wide : length s.words ≡ words
    pub left : (t : ℕ) → t < words → slice_index s.words t ≡ word_after r first t log

-- ---- the laws of a table, by its rule, which keeps a log
module _ {S D : Type 0} (r : Reading D) (words : ℕ) (Rule : State (Unit {0}) (SeatNotes S D) → Type 0) where
  -- The truth of each step: where a hart of a seat has noted a step, and the other seats are as they were, it
  -- found what its word held, changed only that word, and is the newest of all steps.
  abbrev pub StepsAreTrue : ((s : State (Unit {0}) (SeatNotes S D)) → Rule s → Log D) → Type 0
  StepsAreTrue log_of =
      (s s' : State (Unit {0}) (SeatNotes S D)) (kept : Rule s) (kept' : Rule s') (id h place : ℕ)
      (c : SeatNotes S D) (st : S) (x : D)
      → get_elem? s.views id ≡ some c → 0 < seats h c → r.word_of h x < words
      → get_elem? s'.views id ≡ some (seat_notes (noted h st place x c.harts))
      → ((j : ℕ) → j ≢ id → get_elem? s'.views j ≡ get_elem? s.views j)
      → (r.found_by x (slice_index s.words (r.word_of h x)) ≡ slice_index s.words (r.word_of h x))
      × ((t : ℕ) → t < words
      → slice_index s'.words t
      ≡ (if r.word_of h x == t then r.left_by h x (slice_index s.words t) else slice_index s.words t))
      × (place ≡ length (log_of s kept)) × (log_of s' kept' ≡ (h, x) ∷ log_of s kept)

  -- No earlier step can be noted anew: where every hart has the same steps before a place in two states, and a
  -- hart has a step at that place in both, in the same word, then both found what that word held.
  abbrev pub EarlierStepsStand : Type 0
  EarlierStepsStand =
      (s s' : State (Unit {0}) (SeatNotes S D)) → Rule s → Rule s' → (p : ℕ)
      → ((v v' : HartNotes S D) → IsAmong (λ (c : SeatNotes S D). c.harts) s.views v
      → IsAmong (λ (c : SeatNotes S D). c.harts) s'.views v' → v'.hart ≡ v.hart
      → earlier p (placed v'.actions v'.places) ≡ earlier p (placed v.actions v.places))
      → (v v' : HartNotes S D) (i j : ℕ) (x y : D)
      → IsAmong (λ (c : SeatNotes S D). c.harts) s.views v
      → IsAmong (λ (c : SeatNotes S D). c.harts) s'.views v' → v'.hart ≡ v.hart
      → get_elem? (placed v.actions v.places) i ≡ some (p, x)
      → get_elem? (placed v'.actions v'.places) j ≡ some (p, y) → r.word_of v.hart y ≡ r.word_of v.hart x
      → (w : ℕ) × (r.found_by x w ≡ w) × (r.found_by y w ≡ w)

  -- What no seat noted changed nothing.
  abbrev pub ChangesAreNoted : Type 0
  ChangesAreNoted =
      (s s' : State (Unit {0}) (SeatNotes S D)) → Rule s → Rule s'
      → ((j : ℕ) → get_elem? s'.views j ≡ get_elem? s.views j)
      → (t : ℕ) → t < words → slice_index s'.words t ≡ slice_index s.words t
