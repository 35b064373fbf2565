use Rattle.std.proofs.Common.{◌<◌, ℕ, List, sym, subst}
use Rattle.atomic_table.specs.Seated.{TableId}
use Rattle.hsm.specs.{Rule.HasSteps, Seating.started_in, Words.HartView}
use Rattle.ipi.specs.{Ledger.{PendingView, HasSteps as HasRaises}, Seating.{all_pending_views, harts_of}}
use Rattle.sbi_calls.specs.Both.{harts_of_both}
use Rattle.tallies.specs.Seats.{AreSeats, IsSeatIn}
use Rattle.board_session.proofs.seats_back.SeatsBack.join.Goals as goal

pub join-requires-clause-seats : goal.join-requires-clause-seats
join-requires-clause-seats g c = subst (λ (id : TableId). AreSeats (IsSeatIn id) c.args.self.starts.items) (sym c.requires.named.0) c.args.self.theirs.0

pub join-requires-2-clause-seats : goal.join-requires-2-clause-seats
join-requires-2-clause-seats g c = subst (λ (id : TableId). AreSeats (IsSeatIn id) c.args.self.raises.items) (sym c.requires.named.1) c.args.self.theirs.1

pub join-requires-2-clause-some : goal.join-requires-2-clause-some
join-requires-2-clause-some g c = subst (λ (n : ℕ). 0 < n) (sym c.args.self.many) c.requires.some

pub returns-clause-starts : goal.returns-clause-starts
returns-clause-starts g c =
    let t = c.args.tables.now in
    subst (λ (vs : List HartView). HasSteps (harts_of_both t) (started_in t.harts) vs) c.join.ensures.harts c.join.ensures.steps

pub returns-clause-raises : goal.returns-clause-raises
returns-clause-raises g c =
    let t = c.args.tables.now in
    subst (λ (n : ℕ). HasRaises n (all_pending_views c.args.self.raises.items)) t.same
    (subst (λ (ws : List PendingView). HasRaises (harts_of t.pending) ws) c.join-2.ensures.harts c.join-2.ensures.steps)
