use Rattle.std.proofs.Common.{arith}
use Rattle.ipi.proofs.Keeps.{looks}
use Rattle.ipi.proofs.calls.look_by.Goals as goal

pub load-requires : goal.load-requires
load-requires g c =
    let t = c.args.table.now in
    let s = c.args.seat.now in
    let wide = t.wide in
    let under = c.requires.by in
    rw (c.requires.named, c.index-word.ensures.value) (c.requires.seat.0, omega arith, looks t.table.shared.key t.table.shared.table_id.slots s.id s.me c.args.by t.few c.requires.acts)
