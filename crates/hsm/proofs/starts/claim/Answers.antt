use Rattle.std.proofs.Common.{ℕ, subst, arith}
use Rattle.hsm.{proofs.Allowed.claims_as, specs.{States.Tells, Seating.hart_view_of_seat}}
use Rattle.hsm.proofs.starts.claim.Goals as goal

pub fetch_or-requires : goal.fetch_or-requires
fetch_or-requires g c =
    let t = c.args.table.now in
    let s = c.args.seat.now in
    let wide = t.wide in
    let under = c.requires.target in
    rw (c.requires.named.0, c.requires.named.1, c.requires.named.2, c.requires.named.3, c.requires.named.4, c.number-bit.ensures.value) (c.requires.seat.0, omega arith, claims_as t.table.shared.key.harts t.table.shared.key.started t.table.shared.table_id.slots s.id s.me c.args.by t.few c.args.target c.args.address c.args.opaque c.requires.target c.requires.site c.requires.acts)

pub returns-clause-tells : goal.returns-clause-tells
returns-clause-tells g c = subst (λ (n : ℕ). Tells n (hart_view_of_seat c.args.seat.now) c.fetch_or.result) c.requires.named.0 c.fetch_or.ensures.2.1
