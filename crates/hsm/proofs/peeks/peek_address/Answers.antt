use Rattle.std.proofs.Common.{ℕ, subst, arith}
use Rattle.hsm.{specs.{Outcomes.IsStartAddress, Seating.hart_view_of_seat}, proofs.Later.peeks_address_as}
use Rattle.hsm.proofs.peeks.peek_address.Goals as goal

pub load-requires : goal.load-requires
load-requires g c =
    let t = c.args.table.now in
    let s = c.args.seat.now in
    let wide = t.wide in
    let under = c.requires.hart in
    rw (c.requires.named.0, c.requires.named.1, c.index.ensures.value) (c.requires.seat.0, omega arith, peeks_address_as t.table.shared.key.harts t.table.shared.key.started t.table.shared.table_id.slots s.id s.me c.args.hart c.requires.hart)

pub returns-clause-start : goal.returns-clause-start
returns-clause-start g c =
    let view = hart_view_of_seat c.args.seat.now in
    subst (λ (n : ℕ). IsStartAddress n view c.args.hart c.load.result) c.requires.named.0 (subst (λ (h : ℕ). IsStartAddress g.J.Acting.harts view h c.load.result) c.requires.named.1 c.load.ensures.2.1)
