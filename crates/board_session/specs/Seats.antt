-- Seats of a table that came back. Source: docs/TABLES.md, "Seats".
use Rattle.std.specs.Prelude.{List, [], ◌∷◌, Option, Some, None}
use Rattle.std.specs.Coded.{×_prop, Unit-prop}
use Rattle.tallies.specs.Seats.{AreSeats}

-- that each is one is a fact with one proof at most, where it is of each by itself
pub AreSeats-prop : {S : Type 0} (IsSeat : S → Type 0) (ss : List (Option S)) → ((s : S) → IsProp (IsSeat s)) → IsProp (AreSeats IsSeat ss)
AreSeats-prop IsSeat [] single = Unit-prop
AreSeats-prop IsSeat (None ∷ ss) single = λ x y. absurd x.0
AreSeats-prop IsSeat (Some s ∷ ss) single = ×_prop (single s) (AreSeats-prop IsSeat ss single)
