use Rattle.std.proofs.Common.{arith, subst, sym}
use Rattle.atomic_table.specs.declared.shared.Seat.{Seat}
use Rattle.savers.{proofs.Steps.ended, specs.{Draws.AreEachOnce, declared.view.TicketView.TicketView}}
use Rattle.savers.proofs.ticket.Ticket.end.Goals as goal

pub free-requires : goal.free-requires
free-requires c k lt =
    let none = c.args.self.no_slot in
    let count = c.close_with-closed.ensures.counts.1 in
    absurd (omega arith)

pub invariant_of-result : goal.invariant_of-result
invariant_of-result c =
    let final = c.close_with-closed.ensures.values.2 in
    let drawn : AreEachOnce c.args.seat.me.0.drawn = ended final.0 c.args.seat.id c.args.seat.me.0 final.1.0 final.1.1 c.requires.whole in
    record { once = subst (λ (s : Seat (Unit {0}) TicketView). AreEachOnce s.me.0.drawn) (sym c.of-last.ensures) drawn }
