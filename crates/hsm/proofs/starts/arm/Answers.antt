use Rattle.std.proofs.Common.{arith}
use Rattle.hsm.proofs.Allowed.{arms_as}
use Rattle.hsm.proofs.starts.arm.Goals as goal

pub fetch_or-requires : goal.fetch_or-requires
fetch_or-requires g c =
    let t = c.args.table.now in
    let s = c.args.seat.now in
    let wide = t.wide in
    let under = c.requires.target in
    rw (c.requires.named.0, c.requires.named.1, c.number-bit.ensures.value) (c.requires.seat.0, omega arith, arms_as t.table.shared.key.harts t.table.shared.key.started t.table.shared.table_id.slots s.id s.me c.args.by t.few c.args.target c.args.address c.args.opaque c.requires.target c.requires.acts)
