use Rattle.std.proofs.{Common.{◌∙◌, ◌++◌, ◌∷◌, [], List, Option, Some, arith, sym, ap, subst}, lemmas.List.append-nil}
use Rattle.atomic_table.specs.declared.shared.Seat.{Seat}
use Rattle.hsm.specs.{Seating.{all_harts, harts_in}, Words.{HartSeatView, HartView}}
use Rattle.ipi.specs.{Ledger.{PendingSeatView, PendingView}, Seating.{all_pending_views, pending_views_in}}
use Rattle.tallies.{specs.Seats.{AreSeats, IsSeatIn}, proofs.Seatings.{all_push, are_push}}
use Rattle.board_session.proofs.seats_back.SeatsBack.push.Goals as goal

pub invariant_of-self : goal.invariant_of-self
invariant_of-self g c =
    let t = g.J.Threaded in
    let self = c.args.self.now in
    let seats = c.args.seats in
    let more = c.push.ensures.len in
    let also = c.push-2.ensures.len in
    let many = self.many in
    record {
      theirs = (
        subst (λ (l : List (Option (Seat (Unit {0}) HartSeatView))). AreSeats (IsSeatIn t.starts) l) (sym c.push.ensures.items) (are_push (IsSeatIn t.starts) self.starts.items (Some seats.harts) self.theirs.0 c.requires.theirs.0),
        subst (λ (l : List (Option (Seat (Unit {0}) PendingSeatView))). AreSeats (IsSeatIn t.raises) l) (sym c.push-2.ensures.items) (are_push (IsSeatIn t.raises) self.raises.items (Some seats.pending) self.theirs.1 c.requires.theirs.1),
      );
      many = omega (arith, more, also, many);
    }

pub returns-clause-starts : goal.returns-clause-starts
returns-clause-starts g c =
    let was = c.args.self.now.starts.items in
    let seat = c.args.seats.harts in
    ap all_harts c.push.ensures.items
    ∙ (sym (append-nil (all_harts (was ++ Some seat ∷ []))) ∙ (all_push harts_in was (Some seat) [] ∙ ap (λ (l : List HartView). all_harts was ++ l) (append-nil (harts_in seat))))

pub returns-clause-raises : goal.returns-clause-raises
returns-clause-raises g c =
    let was = c.args.self.now.raises.items in
    let seat = c.args.seats.pending in
    ap all_pending_views c.push-2.ensures.items
    ∙ (sym (append-nil (all_pending_views (was ++ Some seat ∷ []))) ∙ (all_push pending_views_in was (Some seat) [] ∙ ap (λ (l : List PendingView). all_pending_views was ++ l) (append-nil (pending_views_in seat))))
