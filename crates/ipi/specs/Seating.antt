-- Seats of a pending table.
use Rattle.std.specs.Prelude.{◌≡◌, ℕ, List, Option, Some, slice_get}
use Rattle.atomic_table.specs.declared.shared.Seat.{Seat}
use Rattle.tallies.specs.Notes.{seats}
use Rattle.tallies.specs.Seats.{AreSeats, IsSeatIn, HasHarts}
use Rattle.ipi.specs.Ledger.{PendingSeatView}
use Rattle.ipi.specs.declared.table.PendingTable.{PendingTable}
pub use Rattle.tallies.specs.Seats.{one_by_one, view_of_seat as pending_view_of_seat, harts_in as pending_views_in, AreInOrder, harts_by_seat as pending_views_by_seat, all_harts as all_pending_views}

-- The seat is one of this table, and holds nothing else.
abbrev pub IsSeatOf : PendingTable → Seat (Unit {0}) PendingSeatView → Type 0
IsSeatOf t = IsSeatIn t.table.shared.table_id

-- how many harts the table has
abbrev pub harts_of : PendingTable → ℕ
harts_of t = t.table.shared.key

-- the seat has every hart of the table, in the order of their numbers
abbrev pub IsOfAll : PendingTable → Seat (Unit {0}) PendingSeatView → Type 0
IsOfAll t = HasHarts (harts_of t)

-- every place of a list has a seat of the table; one that was taken out leaves None
abbrev pub AreSeatsOf : PendingTable → List (Option (Seat (Unit {0}) PendingSeatView)) → Type 0
AreSeatsOf t = AreSeats (IsSeatOf t)

-- each seat of a list has the hart of its place, once
abbrev pub AreSeated : List (Option (Seat (Unit {0}) PendingSeatView)) → Type 0
AreSeated ss =
    (i : ℕ) (s : Seat (Unit {0}) PendingSeatView) → slice_get ss i ≡ Some (Some s)
    → seats i (pending_view_of_seat s) ≡ 1
