-- Lists of seats of a table. A seat has harts, and a view of each, which has its number. A seat that was
-- taken out of a list leaves None.
use Rattle.std.specs.Prelude.{◌≡◌, ℕ, zero, suc, List, [], ◌∷◌, Option, Some, None, map, slice_get}
use Rattle.std.specs.List.{flat_map}
use Rattle.atomic_table.specs.declared.shared.Seat.{Seat}
use Rattle.atomic_table.specs.Seated.{TableId}
use Rattle.tallies.specs.Notes.{numbers}
use Rattle.tallies.specs.declared.view.HartNotes.{HartNotes}
use Rattle.tallies.specs.declared.view.SeatNotes.{SeatNotes}

-- the n numbers from first on
abbrev pub numbers_from : ℕ → ℕ → List ℕ
numbers_from first zero = []
numbers_from first (suc n) = first ∷ numbers_from (suc first) n

-- each view by itself
abbrev pub one_by_one : {V : Type 0} → List V → List (List V)
one_by_one = map (λ v. v ∷ [])

module _ {S : Type 0} (IsSeat : S → Type 0) where
  abbrev pub IsSomeSeat : Option S → Type 0
  IsSomeSeat None = ⊥
  IsSomeSeat (Some s) = IsSeat s

  -- every place has a seat of the table
  abbrev pub AreSeats : List (Option S) → Type 0
  AreSeats [] = Unit {0}
  AreSeats (s ∷ ss) = IsSomeSeat s × AreSeats ss

module _ {S V : Type 0} (views : S → List V) where
  abbrev pub views_at : Option S → List V
  views_at None = []
  views_at (Some s) = views s

  -- the views of each seat of a list
  abbrev pub views_by_seat : List (Option S) → List (List V)
  views_by_seat = map views_at

  -- the views of all seats of a list
  abbrev pub all_views : List (Option S) → List V
  all_views = flat_map views_at

  -- each seat of a list has just the hart of its place
  abbrev pub AreByNumber : (V → ℕ) → List (Option S) → Type 0
  AreByNumber hart ss = (i : ℕ) (s : S) → slice_get ss i ≡ Some (Some s) → map hart (views s) ≡ i ∷ []

-- ---- seats of a table of any views
module _ {V : Type 0} where
  -- the seat is one of the table of this identity, and holds nothing else
  abbrev pub IsSeatIn : TableId → Seat (Unit {0}) V → Type 0
  IsSeatIn id s = (s.table_id ≡ id) × (s.me.1 ≡ [])

  -- what the seat knows
  abbrev pub view_of_seat : Seat (Unit {0}) V → V
  view_of_seat s = s.me.0

-- ---- seats of a table of harts
module _ {S D : Type 0} where
  -- the harts of the seat, each with its stage and its steps
  abbrev pub harts_in : Seat (Unit {0}) (SeatNotes S D) → List (HartNotes S D)
  harts_in s = s.me.0.harts

  -- the seat has n harts, in the order of their numbers
  abbrev pub HasHarts : ℕ → Seat (Unit {0}) (SeatNotes S D) → Type 0
  HasHarts n s = numbers (harts_in s) ≡ numbers_from 0 n

  -- each seat of a list has just the hart of its place
  abbrev pub AreInOrder : List (Option (Seat (Unit {0}) (SeatNotes S D))) → Type 0
  AreInOrder = AreByNumber harts_in (λ v. v.hart)

  -- the harts of each seat of a list
  abbrev pub harts_by_seat : List (Option (Seat (Unit {0}) (SeatNotes S D))) → List (List (HartNotes S D))
  harts_by_seat = views_by_seat harts_in

  -- the harts of all seats of a list
  abbrev pub all_harts : List (Option (Seat (Unit {0}) (SeatNotes S D))) → List (HartNotes S D)
  all_harts = all_views harts_in
