use Rattle.std.proofs.Common.{ℕ, subst, arith}
use Rattle.hsm.{proofs.Allowed.looks_as, specs.{States.Tells, Seating.hart_view_of_seat}}
use Rattle.hsm.proofs.looks.look.Goals as goal

pub load-requires : goal.load-requires
load-requires g c =
    let t = c.args.table.now in
    let s = c.args.seat.now in
    let wide = t.wide in
    rw (c.requires.named.0, c.requires.named.1) (c.requires.seat.0, omega arith, looks_as t.table.shared.key.harts t.table.shared.key.started t.table.shared.table_id.slots s.id s.me c.args.by t.few g.J.Acting.stage c.requires.acts)

pub returns-clause-tells : goal.returns-clause-tells
returns-clause-tells g c = subst (λ (n : ℕ). Tells n (hart_view_of_seat c.args.seat.now) c.load.result) c.requires.named.0 c.load.ensures.2.2
