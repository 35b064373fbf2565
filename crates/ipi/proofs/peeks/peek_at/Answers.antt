use Rattle.std.proofs.Common.{arith}
use Rattle.ipi.proofs.Keeps.{peeks}
use Rattle.ipi.proofs.peeks.peek_at.Goals as goal

pub load-requires : goal.load-requires
load-requires g c =
    let t = c.args.table.now in
    let s = c.args.seat.now in
    let wide = t.wide in
    let under = c.requires.target in
    rw (c.requires.named, c.index-word.ensures.value) (c.requires.seat.0, omega arith, peeks t.table.shared.key t.table.shared.table_id.slots s.id s.me c.args.target t.few c.requires.sits c.args.target c.requires.target)
