use Rattle.std.proofs.Common.{◌<◌, ℕ, List, Bool, refl, sym, subst}
use Rattle.ipi.specs.{Seating.{pending_view_of_seat, pending_views_in}, Views.ArePairs}
use Rattle.sbi_calls.specs.{Answers.pairs_sent, Steps.Sends}
use Rattle.sbi_calls.proofs.sends.send.Goals as goal

pub send_all-pending-requires-clause-by : goal.send_all-pending-requires-clause-by
send_all-pending-requires-clause-by c = subst (λ (n : ℕ). c.args.by < n) (sym c.args.tables.now.same) c.requires.by

pub returns-clause-does : goal.returns-clause-does
returns-clause-does c =
    (refl, subst (λ (n : ℕ). Sends c.args.by c.args.targets n (pending_views_in c.args.seats.pending) (pending_views_in c.send_all-pending.result)) c.args.tables.now.same c.send_all-pending.ensures.sends, refl)

pub returns-clause-alone : goal.returns-clause-alone
returns-clause-alone c = λ t are.
    let sent = subst (λ (n : ℕ). (pairs : List (List Bool)) → ArePairs n (pending_view_of_seat c.args.seats.pending) pairs → ArePairs n (pending_view_of_seat c.send_all-pending.result) (pairs_sent c.args.by c.args.targets pairs)) c.args.tables.now.same c.send_all-pending.ensures.alone in
    (refl, (are.0, sent t.pairs are.1))
