-- Jobs of savers, before and after.
use Rattle.std.specs.Prelude.{◌≡◌, ℕ, List, [], length}
use Rattle.board_model.specs.Shapes.{Size}
use Rattle.disk.specs.Facts.{LaneFacts}
use Rattle.savers.specs.Calls.{IsFilledBy}
use Rattle.savers.specs.Pages.{Fills}
use Rattle.savers.specs.declared.saver.Saver.{Saver}
use Rattle.savers.specs.Draws.{ticket_view, share_of, draws_each}
use Rattle.savers.specs.Seats.{IsSeatOf, ticket_view_of}
use Rattle.savers.specs.declared.ticket.Ticket.{Ticket}

module _ {L : Type 0} where
  -- what a saver drew, in order
  abbrev pub drawn_by : Saver L → List ℕ
  drawn_by s = (ticket_view_of s.seat).drawn

  -- It has drawn nothing, and has a seat of this ticket.
  abbrev pub IsReady : Ticket → Saver L → Type 0
  IsReady t s = IsSeatOf t s.seat × (ticket_view_of s.seat ≡ ticket_view draws_each []) × (s.filled ≡ 0)

  -- It may have drawn.
  abbrev pub IsSeated : Ticket → Saver L → Type 0
  IsSeated t s = IsSeatOf t s.seat × (share_of (ticket_view_of s.seat) ≡ draws_each)

module _ {L : Type 0} (facts : L → LaneFacts) where
  abbrev pub lane_of : Saver L → LaneFacts
  lane_of s = facts s.lane

  -- a saver after its job
  pub record JobDone (t : Ticket) (size : Size) (memory : List ℕ) (serial : ℕ) (old new : Saver L) : Type 0 where
    pub seated : IsSeated t new
    pub first : (lane_of new).first ≡ (lane_of old).first
    pub as_long : length (lane_of new).content ≡ length (lane_of old).content
    pub calls : (lane_of old).failures ≡ 0 → IsFilledBy size new.filled (lane_of old) (lane_of new)
    pub done : (lane_of old).failures ≡ 0 → (lane_of new).failures ≡ 0
        → Fills size memory serial (drawn_by new) new.filled (lane_of new).content
