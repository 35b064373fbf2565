-- Seats of a ticket.
use Rattle.std.specs.Prelude.{◌≡◌, []}
use Rattle.atomic_table.specs.declared.shared.Seat.{Seat}
use Rattle.savers.specs.Draws.{share_of, all_draws}
use Rattle.savers.specs.declared.view.TicketView.{TicketView}
use Rattle.savers.specs.declared.ticket.Ticket.{Ticket}

-- The seat is one of this ticket, and holds nothing else.
abbrev pub IsSeatOf : Ticket → Seat (Unit {0}) TicketView → Type 0
IsSeatOf t s = (s.table_id ≡ t.table.shared.table_id) × (s.me.1 ≡ [])

-- what the seat knows
abbrev pub ticket_view_of : Seat (Unit {0}) TicketView → TicketView
ticket_view_of s = s.me.0

-- No other seat has drawn anything, or may.
abbrev pub IsWhole : TicketView → Type 0
IsWhole v = share_of v ≡ all_draws
