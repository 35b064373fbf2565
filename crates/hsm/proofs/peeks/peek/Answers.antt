use Rattle.std.proofs.Common.{ℕ, subst, arith}
use Rattle.hsm.{specs.{States.Tells, Outcomes.{HasSettled, IsAloneIn}, Seating.{hart_view_of_seat, harts_in}}, proofs.Later.peeks_as}
use Rattle.hsm.proofs.peeks.peek.Goals as goal

pub load-requires : goal.load-requires
load-requires g c =
    let t = c.args.table.now in
    let s = c.args.seat.now in
    let wide = t.wide in
    rw c.requires.named (c.requires.seat.0, omega arith, peeks_as t.table.shared.key.harts t.table.shared.key.started t.table.shared.table_id.slots s.id s.me)

pub returns-clause-tells : goal.returns-clause-tells
returns-clause-tells g c = subst (λ (n : ℕ). Tells n (hart_view_of_seat c.args.seat.now) c.load.result) c.requires.named c.load.ensures.2.1

pub returns-clause-alone : goal.returns-clause-alone
returns-clause-alone g c = subst (λ (n : ℕ). IsAloneIn n (harts_in c.args.seat.now) c.load.result) c.requires.named c.load.ensures.2.2

pub returns-clause-settled : goal.returns-clause-settled
returns-clause-settled g c = subst (λ (n : ℕ). HasSettled n c.load.result) c.requires.named c.load.ensures.2.3
