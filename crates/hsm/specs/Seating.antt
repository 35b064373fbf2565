-- Seats of a hart table.
use Rattle.std.specs.Prelude.{◌≡◌, ℕ, List, Option, Some, slice_get}
use Rattle.atomic_table.specs.declared.shared.Seat.{Seat}
use Rattle.tallies.specs.Seats.{AreSeats, IsSeatIn, HasHarts}
use Rattle.hsm.specs.Words.{HartView, HartSeatView}
use Rattle.hsm.specs.declared.view.Stage.{Stage}
use Rattle.hsm.specs.Rule.{stands}
use Rattle.hsm.specs.declared.table.HartTable.{HartTable}
pub use Rattle.tallies.specs.Seats.{one_by_one, view_of_seat as hart_view_of_seat, harts_in, AreInOrder, harts_by_seat, all_harts}

-- The seat is one of this table, and holds nothing else.
abbrev pub IsSeatOf : HartTable → Seat (Unit {0}) HartSeatView → Type 0
IsSeatOf t = IsSeatIn t.table.shared.table_id

-- how many harts the table has
abbrev pub harts_of : HartTable → ℕ
harts_of t = t.table.shared.key.harts

-- the hart that was started when the table was made
abbrev pub started_in : HartTable → ℕ
started_in t = t.table.shared.key.started

-- the seat has every hart of the table, in the order of their numbers
abbrev pub IsOfAll : HartTable → Seat (Unit {0}) HartSeatView → Type 0
IsOfAll t = HasHarts (harts_of t)

-- every place of a list has a seat of the table; one that was taken out leaves None
abbrev pub AreSeatsOf : HartTable → List (Option (Seat (Unit {0}) HartSeatView)) → Type 0
AreSeatsOf t = AreSeats (IsSeatOf t)

-- each seat of a list stands where its hart stood in a list of all harts
abbrev pub StandAsIn : List HartView → List (Option (Seat (Unit {0}) HartSeatView)) → Type 0
StandAsIn vs ss =
    (i : ℕ) (s : Seat (Unit {0}) HartSeatView) (st : Stage) → slice_get ss i ≡ Some (Some s) → stands i st vs
    → stands i st (harts_in s)

-- each hart stands in a list of all harts where it stands in its seat
abbrev pub StandTogether : List (Option (Seat (Unit {0}) HartSeatView)) → List HartView → Type 0
StandTogether ss vs =
    (i : ℕ) (s : Seat (Unit {0}) HartSeatView) (st : Stage) → slice_get ss i ≡ Some (Some s)
    → stands i st (harts_in s) → stands i st vs
