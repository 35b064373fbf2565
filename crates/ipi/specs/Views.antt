-- The pending pairs as a function of the view of a seat of all harts, so that a board may keep them as a
-- value.
use Rattle.std.specs.Prelude.{◌≡◌, ℕ, ◌<◌, Bool, true, false, List, [], length, map, get_or, slice_set, nat_lt}
use Rattle.tallies.specs.Seats.{numbers_from}
use Rattle.ipi.specs.Ledger.{PendingSeatView, raised, taken}
use Rattle.ipi.specs.Pairs.{Shows}

-- the pair is pending
abbrev pub pair_in : PendingSeatView → ℕ → ℕ → Bool
pair_in c sender target = nat_lt (taken sender target c) (raised sender target c)

-- ---- a list of pairs has a row for each target, and in it a place for each sender
-- the pairs of a board
abbrev pub pairs_in : ℕ → PendingSeatView → List (List Bool)
pairs_in harts c = map (λ target. map (λ sender. pair_in c sender target) (numbers_from 0 harts)) (numbers_from 0 harts)

abbrev pub row_of : List (List Bool) → ℕ → List Bool
row_of pairs target = get_or pairs target []

-- a pair of a list; one with a hart that the board lacks is not pending
abbrev pub pair_at : List (List Bool) → ℕ → ℕ → Bool
pair_at pairs sender target = get_or (row_of pairs target) sender false

abbrev pub AreRows : ℕ → List (List Bool) → Type 0
AreRows harts pairs = (length pairs ≡ harts) × ((target : ℕ) → target < harts → length (row_of pairs target) ≡ harts)

-- the view of a seat of all harts shows these pairs
abbrev pub ArePairs : ℕ → PendingSeatView → List (List Bool) → Type 0
ArePairs harts c pairs = AreRows harts pairs × Shows harts c (pair_at pairs)

-- one more pair
abbrev pub pairs_with : ℕ → ℕ → List (List Bool) → List (List Bool)
pairs_with sender target pairs = slice_set pairs target (slice_set (row_of pairs target) sender true)

-- none of a target is left
abbrev pub pairs_without : ℕ → List (List Bool) → List (List Bool)
pairs_without target pairs = slice_set pairs target (map (λ _. false) (row_of pairs target))
