-- The rule of a ticket: one word, which counts the draws. Source: docs/STORE.md, "The ticket".
use Rattle.std.specs.Prelude.{◌≡◌, ℕ, ◌+◌, ◌-◌, List, [], ◌∷◌, ◌++◌, length, slice_index, nat_lt, if◌then◌else◌}
use Rattle.atomic_table.specs.Table.{State, Me, Step}
pub use Rattle.crew.specs.Orders.{times}
use Rattle.tallies.specs.Sums.{total}
use Rattle.savers.specs.declared.view.TicketView.{TicketView}

-- 1 where x is below n, and else 0
abbrev pub once_below : ℕ → ℕ → ℕ
once_below x n = if nat_lt x n then 1 else 0

-- They are the numbers below their count, each once.
abbrev pub AreEachOnce : List ℕ → Type 0
AreEachOnce drawn = (x : ℕ) → times x drawn ≡ once_below x (length drawn)

abbrev pub ticket_view : ℕ → List ℕ → TicketView
ticket_view left drawn = record { left = left; drawn = drawn }

-- how often a ticket may be drawn from in all: 4 lanes of at most 256 places
abbrev pub all_draws : ℕ
all_draws = 1024

-- and by a seat that was parted off: a lane of 256 places
abbrev pub draws_each : ℕ
draws_each = 256

-- the draws of a seat, made and to be made
abbrev pub share_of : TicketView → ℕ
share_of v = v.left + length v.drawn

-- The rule, between any two steps. What all seats drew, put together, are the numbers below the word, each
-- once. A draw that may be made, and one that was made, is that of one seat; so many of each there are that
-- the word can't wrap.
pub record AreDrawnOnce (s : State (Unit {0}) TicketView) : Type 0 where
  pub wide : length s.words ≡ 1
  pub once : (x : ℕ) → total (λ (v : TicketView). times x v.drawn) s.views ≡ once_below x (slice_index s.words 0)
  pub left : total (λ (v : TicketView). v.left) s.views + slice_index s.words 0 ≡ all_draws
  pub all : total share_of s.views ≡ all_draws

-- the one kind of step: the seat has drawn what the word was
abbrev pub DrawsNext : Step (Unit {0}) → Me (Unit {0}) TicketView → ℕ → Me (Unit {0}) TicketView → Type 0
DrawsNext st old found new =
    (new.0 ≡ ticket_view (old.0.left - 1) (old.0.drawn ++ found ∷ [])) × (new.1 ≡ old.1)

-- what the first seat knows
abbrev pub unused_view : TicketView
unused_view = ticket_view all_draws []

-- what a seat knows once another was parted off, and what that one does
abbrev pub without_part : TicketView → TicketView
without_part v = ticket_view (v.left - draws_each) v.drawn

abbrev pub new_part : TicketView → TicketView
new_part v = ticket_view draws_each []

-- what a seat knows that has taken in another, and what is left of that one
abbrev pub together : TicketView → TicketView → TicketView
together v w = ticket_view (v.left + w.left) (v.drawn ++ w.drawn)

abbrev pub spent_view : TicketView
spent_view = ticket_view 0 []
