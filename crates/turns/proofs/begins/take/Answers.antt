use Rattle.std.proofs.Common.{◌<◌, ℕ, refl, sym, subst}
use Rattle.ipi.specs.{Seating.{pending_view_of_seat, harts_of as pair_harts}, Views.{ArePairs, pair_at, pairs_without}}
use Rattle.turns.proofs.begins.take.Goals as goal

pub returns-clause-alone : goal.returns-clause-alone
returns-clause-alone c = λ t are.
    let n = pair_harts c.args.tables.now.pending in
    let e = c.args.tables.now.same in
    let before = subst (λ (k : ℕ). ArePairs k (pending_view_of_seat c.args.seats.pending) t.pairs) (sym e) are.1 in
    let lt = subst (λ (k : ℕ). c.args.by < k) (sym e) c.requires.by in
    let a = c.take-pending.ensures.alone (pair_at t.pairs) before.1 in
    (are.0, subst (λ (k : ℕ). ArePairs k (pending_view_of_seat c.take-pending.result.0) (pairs_without c.args.by t.pairs)) e (c.seat_determines_pairs.ensures.taken n (pending_view_of_seat c.take-pending.result.0) c.args.by t.pairs before.0 lt a.1))

pub returns-clause-own : goal.returns-clause-own
returns-clause-own c = (refl, c.take-pending.result.1, c.take-pending.ensures.steps)

pub take-pending-requires-clause-seat : goal.take-pending-requires-clause-seat
take-pending-requires-clause-seat c = c.requires.seats.1

pub take-pending-requires-clause-acts : goal.take-pending-requires-clause-acts
take-pending-requires-clause-acts c = c.requires.sits

pub returns-clause-harts : goal.returns-clause-harts
returns-clause-harts c = refl
