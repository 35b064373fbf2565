use Rattle.std.proofs.Common.{arith}
use Rattle.hsm.proofs.Allowed.{reads_address_as}
use Rattle.hsm.proofs.entries.read_address.Goals as goal

pub load-requires : goal.load-requires
load-requires g c =
    let t = c.args.table.now in
    let s = c.args.seat.now in
    let wide = t.wide in
    let under = c.requires.by in
    rw (c.requires.named, c.index.ensures.value) (c.requires.seat.0, omega arith, reads_address_as t.table.shared.key.harts t.table.shared.key.started t.table.shared.table_id.slots s.id s.me c.args.by t.few c.requires.acts c.requires.by)
