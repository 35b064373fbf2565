use Rattle.std.proofs.Common.{arith}
use Rattle.hsm.proofs.Allowed.{stops_as}
use Rattle.hsm.proofs.changes.stop.Goals as goal

pub fetch_and-requires : goal.fetch_and-requires
fetch_and-requires g c =
    let t = c.args.table.now in
    let s = c.args.seat.now in
    let wide = t.wide in
    let under = c.requires.by in
    rw (c.requires.named, c.number-hart.ensures.value) (c.requires.seat.0, omega arith, stops_as t.table.shared.key.harts t.table.shared.key.started t.table.shared.table_id.slots s.id s.me c.args.by t.few c.requires.by c.requires.acts)
