use Rattle.std.proofs.Common.{ℕ, subst, arith}
use Rattle.ipi.{specs.{Ledger.HasSteps, Seating.pending_views_in}, proofs.Keeps.sees}
use Rattle.ipi.proofs.peeks.see.Goals as goal

pub load-requires : goal.load-requires
load-requires g c =
    let t = c.args.table.now in
    let s = c.args.seat.now in
    let wide = t.wide in
    let one = t.one in
    rw c.requires.named (c.requires.seat.0, omega arith, sees t.table.shared.key t.table.shared.table_id.slots s.id s.me)

pub returns-clause-steps : goal.returns-clause-steps
returns-clause-steps g c = subst (λ (n : ℕ). HasSteps n (pending_views_in c.args.seat.now)) c.requires.named c.load.ensures.2.1
