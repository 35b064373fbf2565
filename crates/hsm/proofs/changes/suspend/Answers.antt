use Rattle.std.proofs.Common.{arith}
use Rattle.hsm.proofs.Later.{suspends_as}
use Rattle.hsm.proofs.changes.suspend.Goals as goal

pub fetch_or-requires : goal.fetch_or-requires
fetch_or-requires g c =
    let t = c.args.table.now in
    let s = c.args.seat.now in
    let wide = t.wide in
    let under = c.requires.by in
    rw (c.requires.named, c.number-bit.ensures.value) (c.requires.seat.0, omega arith, suspends_as t.table.shared.key.harts t.table.shared.key.started t.table.shared.table_id.slots s.id s.me c.args.by t.few c.requires.by c.requires.acts)
